-- The definitions that the contracts of record_flow cite.
pub mod Flows
pub mod Values
pub mod Moves
pub mod Letters
pub mod Steps
