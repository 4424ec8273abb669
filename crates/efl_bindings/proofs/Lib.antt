-- The lemmas of efl_bindings.
pub mod BuiltLemmas
pub mod SiteLemmas
pub mod TableLemmas
pub mod LetterLemmas
pub mod OuterLemmas
pub mod ProcedureLemmas
pub mod ExpressionLemmas
