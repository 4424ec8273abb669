-- When a source and a target agree: what a run of the one shows is what the other means, and nothing is missed.
use Rattle.std.specs.Prelude.{◌≡◌, ℕ, ◌+◌, ◌*◌, ◌≤◌}
use Rattle.f66_tree.specs.World.{Shown, IsPrefix, Finish, Ended, GoesOn}

-- the same records and the same end
pub record Same (s t : Shown) : Type 0 where
  pub records : s.records ≡ t.records
  pub end : s.end ≡ t.end

-- the target t, bounded by its statements begun, does what the source s does, bounded by the turns of its loops
pub record Agrees (s t : ℕ → Shown) : Type 0 where
  pub ended : (n : ℕ) (f : Finish) → (t n).end ≡ Ended f → Same (s n) (t n)
  pub going : (n : ℕ) → (t n).end ≡ GoesOn → IsPrefix (t n).records (s n).records
  pub ended_too : (b : ℕ) (f : Finish) → (s b).end ≡ Ended f → (n : ℕ) → 32 * ((s b).work + 1) ≤ n → Same (s b) (t n)
  pub going_too : (b : ℕ) → (s b).end ≡ GoesOn → IsPrefix (s b).records (t (32 * ((s b).work + 1))).records
