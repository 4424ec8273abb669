-- The lemmas of linked_soundness.
pub mod PartLemmas
pub mod KindLemmas
pub mod PlaceLemmas
pub mod ValueLemmas
pub mod StatementLemmas
pub mod ItemLemmas
pub mod ActLemmas
pub mod RunLemmas
pub mod FormatLemmas
pub mod RuleLemmas
pub mod CallLemmas
pub mod ProgramLemmas
mod Examples
mod ExamplesOfFailures
