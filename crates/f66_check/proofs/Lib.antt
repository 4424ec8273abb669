-- The lemmas of f66_check.
pub mod PartLemmas
