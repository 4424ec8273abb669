-- The definitions that the contracts of macro_define cite.
pub mod Made
pub mod Macros
pub mod Defines
pub mod Placed
pub mod Uses
pub mod Ends
pub mod Answers
pub mod Expansion
pub mod Gathered
pub mod GatherAnswers
pub mod Plain
