-- The definitions that the contracts of stack_code cite.
pub mod Instructions
pub mod Views
pub mod StackMachine
pub mod ValidCode
pub mod Facts
pub mod Ahead
pub mod Bounds
pub mod Safety
