-- The lemmas of record_intake.
pub mod FirstRecords
pub mod Buffers
pub mod Asking
