-- The definitions that the contracts of format_io cite.
pub mod Places
pub mod Answers
pub mod OneField
pub mod Coding
pub mod Letters
pub mod Laws
