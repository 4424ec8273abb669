-- The definitions that the contracts of efl_room cite.
pub mod Actuals
pub mod Branches
