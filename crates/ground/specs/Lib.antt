-- The definitions that the contracts of ground cite.
pub mod Arithmetic
pub mod Content
pub mod FaultNames
pub mod Faults
pub mod Texts
pub mod TrapNames
