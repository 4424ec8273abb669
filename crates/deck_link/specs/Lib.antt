-- The definitions that the contracts of deck_link cite.
pub mod Ending
pub mod Units
pub mod Linking
pub mod Laws
