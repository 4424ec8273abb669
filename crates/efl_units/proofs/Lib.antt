-- The lemmas of efl_units.
pub mod Congruence
pub mod Equals
pub mod Functions
pub mod GroupSteps
pub mod Grouped
pub mod HeaderLemmas
pub mod HomeNames
pub mod LabelLemmas
pub mod Mapped
pub mod NumberLemmas
pub mod Owned
pub mod Tops
pub mod TypeLines
pub mod TypedLemmas
pub mod UnitLemmas
