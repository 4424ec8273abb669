-- The lemmas of efl_variables.
pub mod KeyLemmas
pub mod FindLemmas
pub mod VariableLemmas
pub mod DistinctLemmas
