-- The definitions that the contracts of efl_variables cite.
pub mod Keys
pub mod Numbered
