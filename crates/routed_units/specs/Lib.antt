-- The definitions of routed_units.
pub mod Routed
