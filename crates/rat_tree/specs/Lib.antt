-- The definitions that the contracts of rat_tree cite.
pub mod Syntax
pub mod Views
pub mod Meaning
pub mod Places
pub mod Uses
pub mod Laws
