-- The lemmas of offset_classes.
pub mod LinkLemmas
pub mod ForestLemmas
pub mod HangLemmas
pub mod JoinLemmas
pub mod SeatLemmas
pub mod AnchorLemmas
pub mod BadLemmas
pub mod SweepLemmas
pub mod NumberLemmas
pub mod PlaceLemmas
