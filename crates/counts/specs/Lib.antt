pub mod Codes
pub mod Sizes
pub mod Lengths
pub mod Limits
pub mod Refused
