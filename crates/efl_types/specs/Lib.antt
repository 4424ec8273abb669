-- The definitions that the contracts of efl_types cite.
pub mod Signatures
pub mod Types
pub mod Expressions
pub mod Statements
pub mod Declarations
pub mod Presets
pub mod TypeRules
pub mod Whole
pub mod Storage
