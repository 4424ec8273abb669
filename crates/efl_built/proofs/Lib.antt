-- The lemmas of efl_built.
pub mod BuiltLemmas
