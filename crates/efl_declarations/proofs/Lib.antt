-- The lemmas of efl_declarations.
pub mod SeenLemmas
pub mod PartLemmas
pub mod CheckLemmas
