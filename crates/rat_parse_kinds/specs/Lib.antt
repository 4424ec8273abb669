-- The definitions that the contracts of rat_parse_kinds cite.
pub mod Kinds
pub mod Readings
