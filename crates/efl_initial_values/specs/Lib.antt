-- The definitions that the contracts of efl_initial_values cite.
pub mod Offsets
pub mod Filling
pub mod Fills
pub mod Owners
pub mod Surveys
