-- The definitions that the contracts of efl_lower cite.
pub mod Lowered
pub mod Laws
