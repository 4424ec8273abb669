-- The definitions that the contracts of efl_shape cite.
pub mod Laws
