-- The lemmas of machine.
mod UnitRuns
mod LongInputs
pub mod Streaming
