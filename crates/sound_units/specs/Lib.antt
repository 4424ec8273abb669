-- The definitions that the contracts of sound_units cite.
pub mod Laws
