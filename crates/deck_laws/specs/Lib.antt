-- The definitions that the contracts of deck_laws cite.
pub mod Nesting
pub mod Headers
pub mod Fitting
pub mod Places
pub mod Whole
pub mod Small
