-- The definitions that the contracts of efl_checks cite.
pub mod Walks
pub mod Answers
