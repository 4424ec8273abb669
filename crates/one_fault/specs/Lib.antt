-- The definitions that the contracts of one_fault cite.
pub mod Laws
