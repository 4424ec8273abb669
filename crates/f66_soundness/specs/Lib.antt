-- The definitions that the contracts of f66_soundness cite.
pub mod Rightly
pub mod SoundUnits
