-- The lemmas of stmt_formats.
pub mod ItemLemmas
pub mod PlaceLemmas
