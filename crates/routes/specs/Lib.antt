-- The definitions that the contracts of routes cite.
pub mod Routes
pub mod Running
pub mod Code
pub mod Placed
pub mod Units
pub mod Numbered
pub mod PlacedUnit
pub mod Laws
