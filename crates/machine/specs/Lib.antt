-- The definitions that the contracts of machine cite.
pub mod Runs
pub mod Streams
pub mod Loading
pub mod Listings
