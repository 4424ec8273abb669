-- The definitions that the contracts of rat_room cite.
pub mod Room
