-- The definitions that the contracts of stmt_parts cite.
pub mod Lists
pub mod EntryStates
