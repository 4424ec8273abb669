-- The lemmas of efl_written.
pub mod Tokens
pub mod Expressions
pub mod Declarations
pub mod Statements
pub mod Variables
pub mod Programs
