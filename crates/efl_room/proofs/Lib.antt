-- The lemmas of efl_room.
pub mod Rooms
pub mod Rows
pub mod Sizes
