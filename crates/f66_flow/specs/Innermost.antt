-- The innermost DO range around each statement, and the stack that finds it in one pass (X3.9-1966, section 7.1.2.8).
use Rattle.std.specs.Prelude.{◌≡◌, ◌<◌, ◌≤◌, ℕ, nat_le, nat_lt, Bool, true, false, cond, Option, None, Some, List, [], ◌∷◌, take}
use Rattle.std.specs.Option.{option_or}
use Rattle.rule_table.specs.Words.{last_place}
use Rattle.f66_flow.specs.Ranges.{end_at, holds}

-- the innermost range around p: the last one that begins before it and ends at it or later
abbrev pub innermost : List ℕ → ℕ → Option ℕ
innermost ends p = last_place (λ end. nat_le p end) (take p ends)

-- the ranges that begin before i are nested: where one begins within another, it ends no later
pub record IsNested (ends : List ℕ) (i : ℕ) : Type 0 where
  pub within : (d e : ℕ) → d < i → holds ends e d ≡ true → end_at ends d ≤ end_at ends e

-- A stack of ranges, each with its beginning and its end.

-- the last range of the list that ends at q or later
abbrev pub last_range : ℕ → List (ℕ × ℕ) → Option ℕ
last_range q [] = None
last_range q (r ∷ rs) = option_or (last_range q rs) (cond (nat_le q r.1) (Some r.0) None)

-- the range on top
abbrev pub top_of : {X : Type 0} → List X → Option X
top_of [] = None
top_of (x ∷ xs) = option_or (top_of xs) (Some x)

abbrev pub ends_before : ℕ → Option (ℕ × ℕ) → Bool
ends_before q None = false
ends_before q (Some r) = nat_lt r.1 q
