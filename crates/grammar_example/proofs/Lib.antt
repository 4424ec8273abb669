-- The lemmas of grammar_example.
pub mod TableLemmas
