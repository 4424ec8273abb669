-- Numbers that stand in a list more than once.
use Rattle.std.specs.Prelude.{◌≡◌, ◌<◌, ℕ, List, length, slice_index}

-- an earlier number is the same
abbrev pub RepeatsAt : List ℕ → ℕ → Type 0
RepeatsAt ns k = (j : ℕ) × (j < k) × (slice_index ns j ≡ slice_index ns k)

-- the first number that an earlier one is the same as
pub record IsFirstRepeat (ns : List ℕ) (k : ℕ) : Type 0 where
  pub inside : k < length ns
  pub repeats : RepeatsAt ns k
  pub earlier : (i : ℕ) → i < k → ¬ RepeatsAt ns i

-- none is
abbrev pub HasNoRepeat : List ℕ → Type 0
HasNoRepeat ns = (k : ℕ) → k < length ns → ¬ RepeatsAt ns k
