-- The definitions that the contracts of code_layout cite.
pub mod Ranks
pub mod Order
pub mod Same
pub mod Presets
pub mod Tabled
pub mod Ranked
pub mod Spreading
pub mod Laws
pub mod Placing
pub mod Compiled
