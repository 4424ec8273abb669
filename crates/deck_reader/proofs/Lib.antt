-- The lemmas of deck_reader.
pub mod UnitLemmas
pub mod LineLemmas
pub mod CheckLemmas
