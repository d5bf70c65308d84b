pub mod FaultLaws
mod CardLaws
