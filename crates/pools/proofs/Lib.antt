pub mod CutLaws
pub mod PoolLaws
pub mod GatherLaws
