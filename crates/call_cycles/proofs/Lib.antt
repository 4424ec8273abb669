-- The lemmas of call_cycles.
pub mod MarkLemmas
pub mod FallLemmas
