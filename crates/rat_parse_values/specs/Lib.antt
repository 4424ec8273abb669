-- The definitions that the contracts of rat_parse_values cite.
pub mod Kinds
pub mod Values
pub mod Parts
pub mod Phrases
pub mod Plain
pub mod Choices
pub mod Statements
