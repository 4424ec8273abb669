-- The definitions that the contracts of associated_units cite.
pub mod Fit
