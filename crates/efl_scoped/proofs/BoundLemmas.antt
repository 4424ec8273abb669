-- The bounds of a list by their numbers.
use Rattle.std.proofs.Common.{◌≡◌, ◌<◌, ℕ, List, None, length, get_or}
use Rattle.std.proofs.lemmas.List.{get_or_default}
use Rattle.efl_tree.specs.declared.declaration.EflBound.{EflBound}

-- the bound with a number, as a loop takes it
abbrev pub bound_at : List EflBound → ℕ → EflBound
bound_at bs i = get_or bs i (record { low = None; high = None })

pub bound_is : (bs : List EflBound) (i : ℕ) → i < length bs → bound_at bs i ≡ get_or bs i (bound_at bs i)
bound_is bs i lt = get_or_default bs i (record { low = None; high = None }) (bound_at bs i) lt
