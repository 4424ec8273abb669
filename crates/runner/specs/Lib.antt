-- The definitions that the contracts of runner cite.
pub mod Words
pub mod Work
pub mod Reaching
pub mod Subscripted
pub mod Arguments
pub mod Frames
pub mod Running
pub mod Endings
pub mod Recording
pub mod Exchanges
pub mod Blocks
pub mod Runners
pub mod Slots
