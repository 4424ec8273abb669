-- The definitions that the contracts of deck_file cite.
pub mod Loaded
pub mod Answers
