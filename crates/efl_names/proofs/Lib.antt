-- The lemmas of efl_names.
pub mod NameLemmas
