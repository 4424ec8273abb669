-- The lemmas of rat_parse_table.
pub mod TableLemmas
pub mod WordLemmas
