-- The lemmas of f66_program.
pub mod WholeLemmas
pub mod TieLemmas
pub mod Untied
pub mod ProgramLemmas
pub mod CountLemmas
pub mod Examples
