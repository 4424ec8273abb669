-- The definitions that the contracts of gathered_tokens cite.
pub mod Few
pub mod Written
