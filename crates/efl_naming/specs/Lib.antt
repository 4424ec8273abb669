-- The definitions that the contracts of efl_naming cite.
pub mod Choice
pub mod Laws
