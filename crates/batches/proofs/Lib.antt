pub mod ItemLaws
pub mod FoldLaws
