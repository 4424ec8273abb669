-- The lemmas of rule_table.
pub mod WordLemmas
pub mod FirstLemmas
pub mod RuleLemmas
pub mod LesserLemmas
