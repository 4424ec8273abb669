-- The definitions that the contracts of rat_said cite.
pub mod Said
pub mod Brief
pub mod Seen
