-- The definitions that the contracts of efl_tree cite.
pub mod Syntax
pub mod Views
