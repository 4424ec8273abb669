-- The lemmas of deck_link.
pub mod CheckLemmas
pub mod LinkLemmas
pub mod EndLemmas
pub mod OneFault
