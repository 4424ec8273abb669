-- The definitions that the contracts of efl_scoped cite.
pub mod Numbers
pub mod Told
pub mod Seen
pub mod Answers
