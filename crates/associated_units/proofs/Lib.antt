-- The lemmas of associated_units.
pub mod FitLemmas
