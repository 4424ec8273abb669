-- The lemmas of efl_shape.
pub mod Groups
pub mod Uses
pub mod Variables
pub mod Over
pub mod Derived
