-- The definitions that the contracts of efl_lowered cite.
pub mod Naming
pub mod Lowering
pub mod Facts
pub mod Grammatical
pub mod Needs
pub mod Labels
pub mod Names
pub mod Laws
