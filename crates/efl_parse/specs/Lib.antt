-- The definitions that the contracts of efl_parse cite.
pub mod Phrases
pub mod Build
pub mod Efl
pub mod OneTree
