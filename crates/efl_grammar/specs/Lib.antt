-- The published grammar of EFL: which tokens are what, and their trees.
pub mod Tokens
pub mod Expressions
pub mod Declarations
pub mod Statements
pub mod Programs
pub mod Answers
pub mod Laws
