-- The published grammar of Ratfor: which tokens are what, and their trees.
pub mod Tokens
pub mod Expressions
pub mod Formats
pub mod Declarations
pub mod Plain
pub mod Statements
pub mod Programs
pub mod Relation
pub mod Answers
pub mod Laws
