-- The definitions that the contracts of descent cite.
pub mod Passages
pub mod Reading
