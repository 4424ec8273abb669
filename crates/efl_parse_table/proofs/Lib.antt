-- The lemmas of efl_parse_table.
pub mod TableLemmas
pub mod WordLemmas
