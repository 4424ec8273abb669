-- The definitions that the contracts of efl_built cite.
pub mod Unbuilt
pub mod Walks
