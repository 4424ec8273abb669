-- The lemmas of storage_assoc.
pub mod BridgeLemmas
pub mod NumberingLemmas
pub mod ListLemmas
pub mod AreaLemmas
pub mod GroupLemmas
pub mod WalkLemmas
pub mod TableLemmas
pub mod NamingLemmas
pub mod NamingExamples
pub mod ListingLemmas
pub mod PlacingLemmas
pub mod RowLemmas
