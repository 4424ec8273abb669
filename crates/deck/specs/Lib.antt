-- The definitions that the contracts of deck cite.
pub mod Decks
pub mod LongTexts
pub mod Fronts
pub mod Written
pub mod Endings
pub mod Readable
pub mod ReadableStatements
pub mod ReadBack
