pub mod ContentLaws
pub mod ListLaws
