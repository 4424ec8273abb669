-- The lemmas of routed_units.
pub mod Acts
pub mod Standing
pub mod Ranges
pub mod Leading
pub mod Labels
pub mod Units
mod Example
