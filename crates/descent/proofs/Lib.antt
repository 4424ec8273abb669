-- The lemmas of descent.
pub mod PassageLemmas
pub mod ReadingLemmas
pub mod WholeLemmas
