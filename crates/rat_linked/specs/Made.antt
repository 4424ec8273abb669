-- The units of FORTRAN that units of Ratfor became, as far as linking sees them.
use Rattle.std.specs.Prelude.{◌≡◌, ℕ, Bool, true, false, ◌||◌, Option, Some, None}
use Rattle.std.specs.List.{AllByRecursion}
use Rattle.ground.specs.declared.place.Place.{Place}
use Rattle.f66_tree.specs.Syntax.{Text, Header, Act, Routine}
use Rattle.f66_tree.specs.Units.{is_note}
use Rattle.rat_tree.specs.Syntax.{RatRoutine}
use Rattle.rat_check.specs.Parts.{Form, ForHead, Part, unit_parts}
use Rattle.rat_check.specs.Rules.{returns_wrong}
use Rattle.rat_lower.specs.Code.{have_switch}
use Rattle.rat_lower.specs.Lowered.{IsUnitCode}
use Rattle.rat_said.specs.Said.{said_routine}
use Rattle.spared_units.specs.Spared.{Lacks}

abbrev pub is_note_if_any : Option Act → Bool
is_note_if_any None = false
is_note_if_any (Some a) = is_note a

-- a statement in the words of a `for` that is not executed
abbrev pub has_note : Form → Bool
has_note (ForHead a e b) = is_note_if_any a || is_note_if_any b
has_note form = false

-- the parts of a unit with this header have none, and only those of a function return a value
pub record IsProper (h : Header) (v : Part) : Type 0 where
  pub executed : has_note v.form ≡ false
  pub returned : returns_wrong h v.form ≡ false

-- r is what u became by some labels and a spare name, which it has where a switch stands in it and u has not
pub record IsMadeOf (u : RatRoutine) (r : Routine) : Type 0 where
  pub made : ℕ → ℕ
  pub spare : Text
  pub finish : Place
  pub header : r.header ≡ u.header
  pub code : IsUnitCode made spare u finish r.lines
  pub proper : AllByRecursion (IsProper u.header) (unit_parts u.body)
  pub lacks : have_switch u.body ≡ true → Lacks (said_routine u) spare
