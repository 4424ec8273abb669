-- The definitions that the contracts of whole_program cite.
pub mod Linked
pub mod Linkage
