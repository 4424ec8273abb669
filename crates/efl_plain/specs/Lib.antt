-- The definitions of efl_plain.
pub mod Written
pub mod Names
pub mod Tree
pub mod Matched
pub mod Small
pub mod Few
