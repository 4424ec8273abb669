-- The definitions that the contracts of rat_shapes cite.
pub mod Shapes
