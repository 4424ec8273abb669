-- The definitions that the contracts of code_validity cite.
pub mod Valid
