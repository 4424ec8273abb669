-- The lemmas of f66_names.
mod Examples
pub mod FormulaLemmas
pub mod TableLemmas
pub mod ContextLemmas
pub mod SizeLemmas
pub mod DeclaredLemmas
pub mod EntryLemmas
pub mod FormatLemmas
pub mod JumpLemmas
pub mod IntrinsicLemmas
