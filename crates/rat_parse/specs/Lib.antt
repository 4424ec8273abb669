-- The definitions that the contracts of rat_parse cite.
pub mod Build
pub mod Ratfor
pub mod OneTree
