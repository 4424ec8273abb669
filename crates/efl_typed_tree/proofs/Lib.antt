-- The lemmas of efl_typed_tree.
pub mod Rows
