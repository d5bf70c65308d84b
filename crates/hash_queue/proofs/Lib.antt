mod PlaceLaws
mod MessageLaws
pub mod WaitingLaws
mod AddLaws
