-- The definitions that the contracts of f66_check cite.
pub mod CheckRules
pub mod UnitChecks
pub mod Answers
