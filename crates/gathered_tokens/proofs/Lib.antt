-- The lemmas of gathered_tokens.
pub mod Gathering
pub mod Counted
pub mod Scanned
pub mod WrittenTokens
