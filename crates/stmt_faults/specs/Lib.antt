-- The definitions that the contracts of stmt_faults cite.
pub mod Asking
