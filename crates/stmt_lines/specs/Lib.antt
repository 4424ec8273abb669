-- The definitions that the contracts of stmt_lines cite.
pub mod Answers
pub mod Orders
