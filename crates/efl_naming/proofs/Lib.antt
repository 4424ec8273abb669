-- The lemmas of efl_naming.
pub mod Texts
pub mod Counts
pub mod Given
pub mod Once
pub mod Numbers
pub mod Procedures
pub mod Variables
pub mod Apart
pub mod Example
