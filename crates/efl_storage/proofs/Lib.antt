-- The lemmas of efl_storage.
pub mod NamedLemmas
pub mod KindLemmas
pub mod CountLemmas
pub mod LimitLemmas
pub mod FirstLemmas
pub mod PartLemmas
pub mod PlaceLemmas
pub mod ListedLemmas
