-- The definitions that the contracts of f66_program cite.
pub mod Mentions
pub mod Association
pub mod Calls
pub mod Initial
pub mod Linking
pub mod Laws
