-- The definitions that the contracts of efl_typing cite.
pub mod Statements
pub mod Bodies
