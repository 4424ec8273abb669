-- The definitions that the contracts of efl_reading cite.
pub mod Reading
pub mod Alone
pub mod Counting
pub mod Walked
