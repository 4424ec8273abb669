-- The lemmas of efl_parse_expressions.
pub mod Joins
