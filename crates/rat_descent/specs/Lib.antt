-- The definitions that the contracts of rat_descent cite.
pub mod Reading
pub mod Statements
pub mod Lists
pub mod Formats
