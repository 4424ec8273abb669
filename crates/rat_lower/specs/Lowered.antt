-- The unit of FORTRAN that a unit of Ratfor becomes, and the room that it needs.
use Rattle.std.specs.Prelude.{◌≡◌, ℕ, ◌+◌, ◌≤◌, ◌<◌, List, [], length}
use Rattle.std.specs.List.{All}
use Rattle.ground.specs.declared.place.Place.{Place}
use Rattle.f66_tree.specs.Syntax.{Text, Line}
use Rattle.rat_tree.specs.Syntax.{Commands, RatRoutine}
use Rattle.rat_check.specs.Parts.{unit_parts}
use Rattle.rat_check.specs.Survey.{own_labels}
use Rattle.rat_lower.specs.Code.{all_labels, unit_code}
use Rattle.rat_lower.specs.Emitted.{labels_past, unit_names, spare_name}

-- its labels are made from 23000 on, without these; the last place is that of the end of the text
abbrev pub lowered : List ℕ → RatRoutine → Place → List Line
lowered taken u last = unit_code (labels_past taken) (spare_name u) u.header u.place last u.body

-- the statements of a unit whose text ends at `finish`, by its labels that are made and its spare name
pub record IsUnitCode (made : ℕ → ℕ) (spare : Text) (u : RatRoutine) (finish : Place) (lines : List Line) : Type 0 where
  pub is : lines ≡ unit_code made spare u.header u.place finish u.body

-- the labels of the source, each once in reading order
abbrev pub source_labels : Commands → List ℕ
source_labels ss = own_labels (unit_parts ss) []

-- the labels of the source and those that are made
abbrev pub label_count : Commands → ℕ
label_count ss = length (source_labels ss) + all_labels ss

-- room for a unit of FORTRAN: for its labels, of which 23000 to 99999 are 77000, and for one of the names Z00001 to Z99999 that
-- is no name of the source
pub record HasRoom (u : RatRoutine) : Type 0 where
  pub labels : label_count u.body ≤ 77000
  pub names : length (unit_names u) < 99999

abbrev pub AllHaveRoom : List RatRoutine → Type 0
AllHaveRoom us = All HasRoom us
