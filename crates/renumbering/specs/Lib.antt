-- The definitions that the contracts of renumbering cite.
pub mod Bodies
pub mod Placed
pub mod Numbered
pub mod Laws
