pub mod ItemLaws
mod AddedLaws
