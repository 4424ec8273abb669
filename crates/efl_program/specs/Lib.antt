-- The definitions that the contracts of efl_program cite.
pub mod Typed
pub mod Places
pub mod Setting
pub mod Values
pub mod Meaning
pub mod Scoped
pub mod Relocated
pub mod Scoping
pub mod Laws
