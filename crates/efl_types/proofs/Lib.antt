-- The lemmas of efl_types.
pub mod Examples
pub mod StatementExamples
pub mod PresetExamples
pub mod RuleLemmas
pub mod StorageExamples
pub mod WholeExamples
