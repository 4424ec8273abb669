-- The definitions that the contracts of grammar cite.
pub mod Grammar
pub mod Limits
pub mod Lookahead
pub mod Descent
pub mod Certificate
pub mod Stack
pub mod Answers
pub mod Rows
