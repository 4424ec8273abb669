-- The lemmas of rat_tree.
pub mod Rows
mod Examples
pub mod RelatedCommands
pub mod AnyCommands
pub mod Widens
pub mod PlacesAlone
pub mod UnaskedMeanings
