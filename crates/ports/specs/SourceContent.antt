-- What a source in memory shows: the bytes that are left, which reads fail, and how many have.
use Rattle.std.specs.Prelude.{ℕ, List}

pub record SourceContent : Type 0 where
  pub left : List ℕ
  pub failing : List ℕ
  pub faults : ℕ
