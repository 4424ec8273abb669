-- The lemmas of program_storage.
pub mod ShiftLemmas
pub mod StepLemmas
pub mod PartLemmas
pub mod WholeLemmas
pub mod StartLemmas
pub mod LocalLemmas
pub mod FewerLemmas
pub mod LimitLemmas
