-- The lemmas of rat_parse.
pub mod ShapeLemmas
pub mod OneTreeLemmas
