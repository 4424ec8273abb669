-- The lemmas of grammar.
pub mod BoolLemmas
pub mod ListLemmas
pub mod StackLemmas
pub mod StepLemmas
pub mod DistanceLemmas
pub mod LookaheadLemmas
pub mod DerivationLemmas
pub mod ClosingLemmas
pub mod HistoryLemmas
pub mod EndLemmas
pub mod RunLemmas
pub mod OneLemmas
pub mod AnswerLemmas
