-- The lemmas of efl_expressions.
pub mod TypeLemmas
pub mod NameLemmas
pub mod RuleLemmas
