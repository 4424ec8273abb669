-- The lemmas of call_ranks.
pub mod WayLemmas
pub mod CountLemmas
pub mod RankLemmas
