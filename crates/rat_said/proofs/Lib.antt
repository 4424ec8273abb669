-- The lemmas of rat_said.
pub mod Voices
pub mod Telling
pub mod BriefUnits
pub mod PartsSaid
