-- The definitions that the contracts of f66_flow cite.
pub mod Acts
pub mod Ranges
pub mod FlowRules
pub mod Under
pub mod Innermost
