-- There is nothing at each class.
use Rattle.std.proofs.Common.{◌≡◌, ℕ, length, get_or, None}
use Rattle.storage_rules.proofs.ends.no_ends.Given as goal

abbrev pub invariant-loop-class : goal.invariant-loop-class
invariant-loop-class l = (length l.ends.items ≡ l._class) × ((c : ℕ) → get_or l.ends.items c None ≡ None)
