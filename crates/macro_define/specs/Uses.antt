-- The texts of macros that are under way, and what they still stand for.
use Rattle.std.specs.Prelude.{ℕ, zero, suc, ◌+◌, ◌==◌, List, [], ◌∷◌, length, map, drop, Result, Ok, if◌then◌else◌, Vec}
use Rattle.std.specs.List.{list_any}
use Rattle.std.specs.declared.alloc.Global.{Global}
use Rattle.indexmap.specs.IndexMap.{IndexMap}
use Rattle.ground.specs.declared.fault.Fault.{Fault}
use Rattle.ground.specs.declared.place.Place.{Place}
use Rattle.ground.specs.declared.token.Dialect.{Dialect}
use Rattle.ground.specs.declared.token.TokenKind.{TokenKind}
use Rattle.macro_define.specs.declared.uses.Use.{Use}
use Rattle.macro_define.specs.Made.{Made, and_then}
use Rattle.macro_define.specs.Macros.{Macros, text_of, text_made, replaced}

-- the names and texts of a table
abbrev pub table : {S : Type 0} → IndexMap (Vec ℕ Global) (Vec TokenKind Global) S → Macros
table m = map (λ e. (e.0.items, e.1.items)) m.entries

-- how many of the numbers below n are not in progress
abbrev pub free : ℕ → List ℕ → ℕ
free zero progress = 0
free (suc n) progress = free n progress + (if list_any (λ i. i == n) progress then 0 else 1)

-- the numbers in progress, where these are, and then those of the uses, the outermost first
abbrev pub in_progress : List ℕ → List Use → List ℕ
in_progress progress [] = progress
in_progress progress (u ∷ us) = in_progress (u.number ∷ progress) us

module _ (d : Dialect) (macros : Macros) (place : Place) where
  -- what a macro makes, where these are in progress
  abbrev pub used : List ℕ → ℕ → Made → Result Made Fault
  used progress n m = replaced d macros place (free (length macros) progress) progress n m

  -- what is left of the text of one in progress makes
  abbrev pub rest_made : List ℕ → Use → Made → Result Made Fault
  rest_made progress u m = text_made d macros place (used progress) (drop u.next (text_of macros u.number)) m

  -- what uses make, the outermost first, where these are in progress around them
  abbrev pub still_made : List ℕ → List Use → Made → Result Made Fault
  still_made progress [] m = Ok m
  still_made progress (u ∷ us) m = and_then (still_made (u.number ∷ progress) us m) (rest_made (u.number ∷ progress) u)
