-- The definitions that the contracts of grammar_example cite.
pub mod Table
pub mod ParseTable
pub mod LookaheadTables
pub mod Outline
pub mod OutlineSound
