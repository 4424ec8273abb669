-- The clauses of a switch in memory, and constants that come.
use Rattle.std.specs.Prelude.{◌≡◌, ℤ, Bool, List, ◌++◌}
use Rattle.std.specs.List.{list_any}
use Rattle.std.specs.HashSet.{HashSet, contains}
use Rattle.std.specs.Ordering.{int_eq}
use Rattle.efl_types.specs.Statements.{same_whole, chosen_again}
use Rattle.efl_statements.specs.declared.clauses.Chosen.{Chosen}

-- the set has these constants
abbrev pub Has : {S : Type 0} → List ℤ → HashSet ℤ S → Type 0
Has before s = (z : ℤ) → contains int_eq s z ≡ list_any (same_whole z) before

-- constants have come
pub record Adds {S : Type 0} (before constants : List ℤ) (s : HashSet ℤ S) (again : Bool) : Type 0 where
  pub has : Has (before ++ constants) s
  pub told : again ≡ chosen_again before constants

-- the clauses have these constants, and a default or not
pub record AreChosen (before : List ℤ) (seen : Bool) (c : Chosen) : Type 0 where
  pub has : Has before c.constants
  pub default_seen : c.has_default ≡ seen
