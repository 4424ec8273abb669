-- The lemmas of rat_parse_values.
pub mod FieldLemmas
pub mod TreeLemmas
