-- The definitions of efl_typed.
pub mod Typing
pub mod Linking
pub mod Layout
pub mod PlacePaths
pub mod Laws
