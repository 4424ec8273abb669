-- The definitions that the contracts of record_intake cite.
pub mod Intakes
