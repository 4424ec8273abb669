-- The definitions that the contracts of linker cite.
pub mod Rules
pub mod Mains
pub mod Sites
pub mod CallRules
pub mod Cycles
pub mod Repeats
pub mod SiteViews
pub mod CallViews
pub mod Types
pub mod TypeViews
pub mod Order
