-- The definitions that the contracts of ports cite.
pub mod Causes
pub mod Puts
pub mod Held
pub mod Left
pub mod Appends
pub mod LibraryContent
pub mod SinkContent
pub mod SourceContent
pub mod Tally
pub mod Failing
pub mod Counted
pub mod Records
