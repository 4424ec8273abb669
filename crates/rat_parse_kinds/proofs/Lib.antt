-- The lemmas of rat_parse_kinds.
pub mod Seen
pub mod Readers
pub mod Readings
pub mod Made
pub mod Meant
