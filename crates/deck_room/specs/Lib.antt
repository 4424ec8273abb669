-- The definitions that the contracts of deck_room cite.
pub mod Printed
