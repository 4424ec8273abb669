-- The lemmas of renumbering.
pub mod PairLemmas
pub mod ValueLemmas
pub mod StatementLemmas
pub mod RunLemmas
pub mod MentionLemmas
pub mod SoundLemmas
pub mod ElementLemmas
pub mod PresetLemmas
pub mod ProgramLemmas
pub mod NumberLemmas
pub mod NumberedLemmas
pub mod CommandLemmas
pub mod BodyLemmas
pub mod SameRuns
mod Examples
