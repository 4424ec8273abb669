-- The lemmas of ports.
pub mod Pieces
pub mod CounterLines
pub mod PutsInARow
pub mod RecordLemmas
