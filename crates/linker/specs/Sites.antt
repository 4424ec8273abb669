-- The calls of a program in reading order, each with the statement that it stands in.
use Rattle.std.specs.Prelude.{◌≡◌, ◌<◌, ◌≤◌, ◌⊎◌, ℕ, suc, List, [], ◌∷◌, ◌++◌, map, Some}
use Rattle.std.specs.List.{Contains, slice_get}
use Rattle.ground.specs.declared.place.Place.{Place}
use Rattle.f66_tree.specs.Syntax.{Line, Routine}
use Rattle.f66_tree.specs.Units.{Context}
use Rattle.f66_program.specs.Mentions.{context_of}
use Rattle.f66_program.specs.Calls.{Call, calls_in}

-- a call in the statement with this number of the unit with this number, both from 0 on
pub record Site : Type 0 where
  pub unit : ℕ
  pub line : ℕ
  pub place : Place
  pub call : Call

abbrev pub site_at : ℕ → ℕ → Place → Call → Site
site_at u i p k = record { unit = u; line = i; place = p; call = k }

abbrev pub line_sites : ℕ → ℕ → Context → List Line → List Site
line_sites u i c [] = []
line_sites u i c (s ∷ lines) = map (site_at u i s.place) (calls_in c s.act) ++ line_sites u (suc i) c lines

abbrev pub sites_from : ℕ → List Routine → List Site
sites_from u [] = []
sites_from u (r ∷ rs) = line_sites u 0 (context_of r) r.lines ++ sites_from (suc u) rs

-- the calls of all units
abbrev pub sites_of : List Routine → List Site
sites_of rs = sites_from 0 rs

-- a call does not stand before another one
abbrev pub IsNotBefore : Site → Site → Type 0
IsNotBefore s t = (s.unit < t.unit) ⊎ ((s.unit ≡ t.unit) × (s.line ≤ t.line))

-- a call of the program
pub record IsSiteIn (rs : List Routine) (s : Site) : Type 0 where
  pub unit : Routine
  pub line : Line
  pub here : slice_get rs s.unit ≡ Some unit
  pub stands : slice_get unit.lines s.line ≡ Some line
  pub place : s.place ≡ line.place
  pub called : Contains (calls_in (context_of unit) line.act) s.call
