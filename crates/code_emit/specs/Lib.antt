-- The definitions that the contracts of code_emit cite.
pub mod Names
pub mod Sorts
pub mod Turns
pub mod Units
pub mod Plans
pub mod Places
pub mod Sizes
pub mod Entries
pub mod Planned
pub mod Laws
