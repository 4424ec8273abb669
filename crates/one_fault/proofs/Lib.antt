-- The lemmas of one_fault.
pub mod SameFaults
pub mod BadFaults
pub mod LinkFaults
