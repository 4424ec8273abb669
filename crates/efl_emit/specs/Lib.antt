-- The definitions that the contracts of efl_emit cite.
pub mod Cases
pub mod Emitted
pub mod Marks
pub mod Names
pub mod Parts
pub mod Rings
pub mod Starts
pub mod Statements
pub mod Transfers
pub mod Turns
pub mod Words
