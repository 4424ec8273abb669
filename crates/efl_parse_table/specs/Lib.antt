-- The definitions that the contracts of efl_parse_table cite.
pub mod Table
pub mod ParseTable
pub mod LookaheadTables
pub mod Words
pub mod Limits
pub mod Efl
pub mod EflSound
