-- The definitions that the contracts of efl_parse_expressions cite.
pub mod Phrases
pub mod Declared
