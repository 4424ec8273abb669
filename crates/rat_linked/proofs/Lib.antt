-- The lemmas of rat_linked.
pub mod Parts
pub mod Forth
pub mod Back
pub mod Notes
pub mod Units
pub mod Programs
pub mod Sources
pub mod Proper
pub mod Below
pub mod Lacking
pub mod Serving
