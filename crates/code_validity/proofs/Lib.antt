-- The lemmas of code_validity.
pub mod Marks
pub mod Plain
pub mod Places
pub mod Values
pub mod Pieces
pub mod Lists
pub mod Acts
pub mod Tails
pub mod Bodies
pub mod Scans
pub mod Sits
pub mod Wires
pub mod Units
pub mod Ranks
pub mod Declared
pub mod Presets
pub mod Programs
