-- The definitions that the contracts of efl_bindings cite.
pub mod Bindings
pub mod Sites
pub mod Declarations
pub mod Typed
