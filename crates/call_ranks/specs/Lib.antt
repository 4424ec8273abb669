-- The definitions that the contracts of call_ranks cite.
pub mod Ranks
