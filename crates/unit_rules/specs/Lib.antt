-- The definitions that the contracts of unit_rules cite.
pub mod Called
pub mod Judged
pub mod Listed
pub mod ListViews
pub mod Forms
pub mod Types
pub mod Roles
pub mod Heads
pub mod Bounds
pub mod Storage
pub mod UnitRules
pub mod PartRules
