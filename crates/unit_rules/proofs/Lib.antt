-- The lemmas of unit_rules.
mod Examples
pub mod NameLemmas
pub mod ListLemmas
pub mod SizeLemmas
pub mod MisfitLemmas
pub mod WithinLemmas
pub mod AgainLemmas
mod AssignmentLemmas
pub mod JudgedLemmas
pub mod SayingLemmas
