-- The definitions that the contracts of efl_typed_tree cite.
pub mod Views
