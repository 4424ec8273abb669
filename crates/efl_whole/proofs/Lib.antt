-- The lemmas of efl_whole.
pub mod NumberLemmas
pub mod UseLemmas
pub mod NameLemmas
pub mod Meanings
pub mod PartCalls
pub mod WholeLemmas
