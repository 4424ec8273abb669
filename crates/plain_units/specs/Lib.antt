-- The definitions of plain_units.
pub mod Plain
pub mod Known
pub mod Labels
pub mod Units
