-- The lemmas of efl_parse.
pub mod WholeLemmas
pub mod OneTreeLemmas
