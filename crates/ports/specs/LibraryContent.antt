-- What a library in memory shows: the texts under their names, which fetches fail, how many there were, and how many
-- have failed.
use Rattle.std.specs.Prelude.{ℕ, List}

pub record LibraryContent : Type 0 where
  pub texts : List (List ℕ × List ℕ)
  pub failing : List ℕ
  pub calls : ℕ
  pub faults : ℕ
