-- The definitions that the contracts of program_storage cite.
pub mod Rows
pub mod Whole
pub mod Parts
pub mod Numbers
pub mod Limits
