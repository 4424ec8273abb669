-- The lemmas of efl_blocks.
pub mod LaterLemmas
pub mod WithinLemmas
pub mod MemberLemmas
pub mod ShapeLemmas
pub mod DeclaredLemmas
pub mod OuterLemmas
pub mod ProcedureLemmas
pub mod HomeLemmas
