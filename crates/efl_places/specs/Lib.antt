-- The definitions that the contracts of efl_places cite.
pub mod Checks
