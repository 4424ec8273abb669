-- The lemmas of stack_code.
pub mod FactsLemmas
pub mod AheadLemmas
pub mod Validity
pub mod SafeLemmas
pub mod SafeOps
pub mod SafeRecords
pub mod Safe
pub mod Once
