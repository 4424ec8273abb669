-- The definitions that the contracts of spared_units cite.
pub mod Spared
pub mod Laws
