-- The definitions that the contracts of storage_rules cite.
pub mod Ends
pub mod Reach
pub mod Blocks
pub mod Mismatch
pub mod Presets
pub mod Repeats
