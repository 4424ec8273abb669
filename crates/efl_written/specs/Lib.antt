-- The definitions that the contracts of efl_written cite.
pub mod Laws
