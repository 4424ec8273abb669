-- The definitions that the contracts of f66_mentions cite.
pub mod Dimensions
pub mod UnitViews
