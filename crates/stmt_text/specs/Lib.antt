-- The definitions that the contracts of stmt_text cite.
pub mod Characters
pub mod Texts
pub mod Emitting
pub mod Fitting
pub mod Breaks
