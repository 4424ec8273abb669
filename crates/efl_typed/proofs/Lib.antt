-- The lemmas of efl_typed.
pub mod Examples
pub mod Each
pub mod FoundLemmas
pub mod CallLemmas
pub mod Found
pub mod Accepted
pub mod LayoutLemmas
pub mod Layouts
pub mod PlacePaths
