-- The lemmas of f66_mentions.
pub mod DimensionLemmas
pub mod FormLemmas
