-- The definitions that the contracts of rat_link cite.
pub mod Linking
pub mod Ties
pub mod Laws
pub mod Briefs
