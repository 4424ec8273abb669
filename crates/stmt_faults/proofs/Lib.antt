-- The lemmas of stmt_faults.
pub mod Seen
