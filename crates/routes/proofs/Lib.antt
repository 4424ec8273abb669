-- The lemmas of routes.
pub mod Tracks
pub mod Follows
pub mod Parts
pub mod Routes
pub mod Units
pub mod Distinct
pub mod Placing
pub mod EnteredUnits
mod Example
