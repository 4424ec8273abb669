-- The lemmas of efl_initial_values.
pub mod KindLemmas
pub mod DepthLemmas
pub mod PassLemmas
pub mod OffsetLemmas
pub mod PlaceLemmas
pub mod CountLemmas
pub mod PresetLemmas
pub mod FillLemmas
pub mod RoomLemmas
pub mod OwnerLemmas
pub mod VariableLemmas
pub mod AreaLemmas
