-- The lemmas of f66_soundness.
pub mod RightlyLemmas
pub mod KindLemmas
pub mod ContentLemmas
pub mod ValueLemmas
pub mod StepLemmas
pub mod FitLemmas
pub mod StatementLemmas
pub mod RecordLemmas
pub mod RunLemmas
pub mod SoundLemmas
mod Examples
