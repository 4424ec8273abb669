-- The lemmas of f66_tree.
pub mod Prefixes
pub mod Agreement
pub mod Stores
pub mod EditingLemmas
pub mod Unasked
pub mod Rows
pub mod Posts
pub mod Related
pub mod RelatedRuns
pub mod AnyNames
pub mod Grows
pub mod Longer
pub mod Wide
pub mod Tries
pub mod EditLemmas
pub mod Comes
pub mod ListNumbers
pub mod PlacesAlone
pub mod UnaskedRuns
pub mod ExampleParts
mod ExamplesOfValues
mod ExamplesOfControl
mod ExamplesOfRecords
