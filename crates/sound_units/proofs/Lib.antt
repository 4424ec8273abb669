-- The lemmas of sound_units.
pub mod ListLemmas
pub mod PlaceLemmas
pub mod SizeLemmas
pub mod ReadyLemmas
