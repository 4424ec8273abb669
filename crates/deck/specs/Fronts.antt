-- What was there is still there.
use Rattle.std.specs.Prelude.{◌≡◌, ℕ, List, ◌++◌}

-- bytes that begin with those that were there
pub record Begins (old new : List ℕ) : Type 0 where
  pub rest : List ℕ
  pub is : new ≡ old ++ rest
