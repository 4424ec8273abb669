-- The lemmas of macro_define.
mod Examples
mod ListLemmas
mod LoneLemmas
mod FileLemmas
mod GoesLemmas
mod PlacedLemmas
mod PlainLemmas
mod TableLemmas
mod ThroughLemmas
mod UseLemmas
mod WholeLemmas
mod EndLemmas
