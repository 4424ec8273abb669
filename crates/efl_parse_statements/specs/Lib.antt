-- The definitions that the contracts of efl_parse_statements cite.
pub mod Lists
pub mod Statements
pub mod Choices
