-- The definitions that the contracts of efl_storage cite.
pub mod Named
pub mod Firsts
pub mod Counted
pub mod Meets
pub mod Parts
