-- The lemmas of deck_file.
pub mod FetchLemmas
pub mod OneLoaded
