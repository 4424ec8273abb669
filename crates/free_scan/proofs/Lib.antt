-- The lemmas of free_scan.
mod Examples
mod Readings
pub mod StepLemmas
pub mod LeftLemmas
pub mod LineLemmas
pub mod TokenLemmas
pub mod WordLemmas
