-- The definitions that the contracts of free_scan cite.
pub mod Characters
pub mod Quotes
pub mod Lines
pub mod Spellings
pub mod Lexemes
pub mod IncludeNames
pub mod Tokens
pub mod Left
