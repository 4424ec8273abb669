-- The definitions that the contracts of efl_statements cite.
pub mod Widths
pub mod Bounds
pub mod Headers
pub mod Clauses
