-- The lemmas of code_listing.
pub mod FlatTexts
