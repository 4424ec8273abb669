-- The definitions that the contracts of rat_linked cite.
pub mod Made
pub mod Laws
pub mod Meaning
