-- The lemmas of stmt_lines.
pub mod BareLemmas
