-- The definitions that the contracts of stmt_formats cite.
pub mod States
