-- The lemmas of format_io.
pub mod Walks
pub mod Plans
pub mod Hands
pub mod FieldFacts
pub mod TurnsOfItems
pub mod Parts
pub mod Trees
pub mod Ways
pub mod Lists
pub mod LetterRuns
