-- The lemmas of efl_checks.
pub mod WalkLemmas
pub mod BlockLemmas
pub mod ProcedureLemmas
