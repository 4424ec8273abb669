-- The lemmas of record_flow.
pub mod Turning
pub mod Ending
pub mod Contents
pub mod Characters
pub mod Taking
pub mod Fetching
pub mod Walking
pub mod Turns
pub mod Puts
pub mod AllRecords
