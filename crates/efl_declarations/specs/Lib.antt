-- The definitions that the contracts of efl_declarations cite.
pub mod GroupFaults
pub mod Sees
pub mod Checks
