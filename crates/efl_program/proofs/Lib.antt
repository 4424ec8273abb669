-- The lemmas of efl_program.
pub mod Related
pub mod RelatedStatements
pub mod SamePlaces
pub mod Widens
pub mod UnaskedMeanings
pub mod PlacesAlone
pub mod Kept
pub mod NeverLost
pub mod Programs
pub mod Examples
