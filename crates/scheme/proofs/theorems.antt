-- What is proved of the scheme; docs/THEOREMS.md has each in plain words.
pub mod TotalTheorem
pub mod ListTheorem
pub mod Corollaries
pub mod PoolTheorem
pub mod ChainTheorem
pub mod AskTheorem
pub mod NonceTheorem
pub mod SinglyTheorem
pub mod FirstBadTheorem
pub mod MarkTheorem
pub mod HoursTheorem
pub mod RejectedTheorem
pub mod RoleTheorem
pub mod IndistinguishableTheorem
