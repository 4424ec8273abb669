-- The definitions that the contracts of linked_soundness cite.
pub mod Laws
