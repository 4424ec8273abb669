-- The lemmas of efl_tree.
pub mod Rows
