-- The definitions that the contracts of rule_table cite.
pub mod Words
pub mod First
pub mod FaultRules
