-- The lemmas of efl_scoped.
pub mod NumberLemmas
pub mod CountLemmas
pub mod WordLemmas
pub mod MemberLemmas
pub mod ShapeLemmas
pub mod BoundLemmas
pub mod SortLemmas
pub mod ListLemmas
pub mod DecodeLemmas
pub mod AreaLemmas
pub mod FirstLemmas
