-- The definitions of efl_limits.
pub mod Sizes
pub mod Laws
