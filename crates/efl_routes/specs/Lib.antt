-- The definitions that the contracts of efl_routes cite.
pub mod Expressions
pub mod Statements
pub mod LoweredProgram
pub mod Kept
pub mod Laws
