-- The lemmas of efl_parse_statements.
pub mod TreeLemmas
