-- The lemmas of code_gen.
pub mod Steps
pub mod Sights
pub mod LoopSteps
pub mod Lengths
pub mod Standing
pub mod Values
pub mod Calls
pub mod Loops
pub mod Records
pub mod Acts
pub mod Keys
pub mod Firsts
pub mod Runs
pub mod Entries
pub mod Programs
pub mod Sizes
pub mod LaidOut
mod SoundUnits
mod LinkedUnits
mod Examples
