-- The definitions that the contracts of deck_reader cite.
pub mod Units
pub mod Answers
pub mod Steps
