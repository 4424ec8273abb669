-- The lemmas of code_emit.
pub mod FormLemmas
pub mod ListLemmas
pub mod RecordLemmas
pub mod BodyLemmas
pub mod OpeningLemmas
pub mod UnitLemmas
pub mod SizeLemmas
pub mod PlaceLemmas
pub mod TurnLemmas
pub mod PlanLemmas
pub mod ProgramLemmas
pub mod FormatLemmas
pub mod EntryLemmas
