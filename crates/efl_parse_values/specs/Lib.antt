-- The definitions that the contracts of efl_parse_values cite.
pub mod Kinds
pub mod Values
pub mod Parts
