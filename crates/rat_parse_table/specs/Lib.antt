-- The definitions that the contracts of rat_parse_table cite.
pub mod Table
pub mod ParseTable
pub mod LookaheadTables
pub mod Words
pub mod WordLengths
pub mod Limits
pub mod Ratfor
pub mod RatforSound
