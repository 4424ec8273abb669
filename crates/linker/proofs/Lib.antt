-- The lemmas of linker.
pub mod PartLemmas
pub mod MainLemmas
pub mod NumberLemmas
pub mod SiteLemmas
pub mod FindLemmas
pub mod CallLemmas
pub mod CycleLemmas
pub mod RepeatLemmas
pub mod TypeLemmas
pub mod SortLemmas
pub mod ClashLemmas
pub mod OrderLemmas
