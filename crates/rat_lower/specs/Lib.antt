-- The definitions that the contracts of rat_lower cite.
pub mod Code
pub mod Notes
pub mod Linkages
pub mod Checked
pub mod Around
pub mod Emitted
pub mod Lowered
pub mod Served
