-- The lemmas of efl_statements.
mod ActLemmas
mod WidthLemmas
mod KindLemmas
mod BoundLemmas
mod VariableLemmas
mod HeaderLemmas
mod ClauseLemmas
