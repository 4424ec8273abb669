-- What a sink in memory shows: the bytes that it holds, its room, which puts fail, and how many have.
use Rattle.std.specs.Prelude.{ℕ, List}

pub record SinkContent : Type 0 where
  pub held : List ℕ
  pub room : ℕ
  pub failing : List ℕ
  pub faults : ℕ
