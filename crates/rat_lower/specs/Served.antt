-- Which units of FORTRAN serve for units of Ratfor.
use Rattle.std.specs.Prelude.{◌≡◌, ℕ, false, List}
use Rattle.std.specs.List.{AllZip, list_any}
use Rattle.std.specs.Str.{bytes_eq}
use Rattle.ground.specs.declared.place.Place.{Place}
use Rattle.f66_tree.specs.declared.unit.Unit.{Unit as AUnit}
use Rattle.f66_tree.specs.Syntax.{Text}
use Rattle.f66_tree.specs.Views.{header_of, lines_of, routine_of}
use Rattle.f66_check.specs.Answers.{IsSoundUnit}
use Rattle.stmt_text.specs.Fitting.{IsPrintable}
use Rattle.rat_tree.specs.Syntax.{RatRoutine}
use Rattle.rat_lower.specs.Checked.{IsChecked}
use Rattle.rat_lower.specs.Emitted.{unit_names}
use Rattle.rat_lower.specs.Lowered.{IsUnitCode}

-- A unit of FORTRAN is what a unit of Ratfor becomes whose text ends at `finish`: it has its header and its place, its statements
-- are those of the definition, by labels that are made and a spare name, which is none of the unit's names, and of which the checks
-- hold, it is sound, and it fits its cards.
pub record Serves (u : RatRoutine) (finish : Place) (unit : AUnit) : Type 0 where
  pub header : header_of unit.header ≡ u.header
  pub place : unit.place ≡ u.place
  pub made : ℕ → ℕ
  pub spare : Text
  pub unnamed : list_any (bytes_eq spare) (unit_names u) ≡ false
  pub code : IsUnitCode made spare u finish (lines_of unit.statements.items)
  pub checked : IsChecked made spare u.header u.body
  pub sound : IsSoundUnit (routine_of unit)
  pub printable : IsPrintable (routine_of unit)

-- there are as many units as routines, and each serves for the one in its place
abbrev pub AllServe : List RatRoutine → Place → List AUnit → Type 0
AllServe us finish made = AllZip (λ (u : RatRoutine) (unit : AUnit). Serves u finish unit) us made
