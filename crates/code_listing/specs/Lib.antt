-- The definitions that the contracts of code_listing cite.
pub mod FlatText
pub mod Listing
