-- The lemmas of whole_program.
pub mod UnitLemmas
pub mod WholeLemmas
pub mod ValueLemmas
pub mod LinkageLemmas
pub mod PairLemmas
