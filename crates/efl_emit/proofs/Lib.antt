-- The lemmas of efl_emit.
pub mod Emitting
pub mod Forms
pub mod Items
pub mod Lists
pub mod Grouping
pub mod Operands
