pub mod Sheet
pub mod Exact
