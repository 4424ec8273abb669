-- The linkage of a program by given numbers of its storage units.
use Rattle.std.specs.Prelude.{◌≡◌, ℕ, true, List, [], length, map, unwrap_or, Option, Some, None}
use Rattle.std.specs.List.{All, slice_get}
use Rattle.ground.specs.declared.fault.FaultKind.TheVariants.{InitialTwice}
use Rattle.f66_tree.specs.Syntax.{Text, MainUnit, Routine}
use Rattle.f66_tree.specs.World.{fresh}
use Rattle.f66_tree.specs.Units.{is_main, Linkage}
use Rattle.f66_check.specs.Answers.{IsSoundUnit}
use Rattle.f66_program.specs.Mentions.{context_of}
use Rattle.f66_program.specs.Association.{IsNumbering}
use Rattle.f66_program.specs.Calls.{unit_named}
use Rattle.f66_program.specs.Initial.{presets_of}
use Rattle.f66_program.specs.Linking.{Program, Part, Breaks, IsLinkage}

-- what is no place has the number 0 too
abbrev pub number_or_zero : (ℕ → Text → ℕ → Option ℕ) → ℕ → Text → ℕ → ℕ
number_or_zero number u x o = unwrap_or (number u x o) 0

-- the units go by these numbers, and begin with the main of this number
abbrev pub numbered : List Routine → ℕ → (ℕ → Text → ℕ → Option ℕ) → Linkage
numbered rs main number = record {
  context = λ u. elim (slice_get rs u) [ Some r ↦ context_of r | None ↦ record { header = MainUnit; notes = [] } ];
  find = λ x. unit_named x rs;
  main = main;
  deep = length rs;
  number = number_or_zero number;
  first = fresh (map (λ q. (number_or_zero number q.unit q.name q.at, q.value)) (presets_of rs));
}

-- A program of sound units that gives no storage unit two initial values, as the rule 29 InitialTwice asks, has a linkage by each
-- numbering of its storage units.
abbrev pub NumberingLinks : Type 0
NumberingLinks =
    (p : Program) → All IsSoundUnit p.units → ((q : Part) → ¬ Breaks InitialTwice p q) → (main : ℕ) (r : Routine) → slice_get p.units main ≡ Some r → is_main r.header ≡ true → (number : ℕ → Text → ℕ → Option ℕ) (total : ℕ) → IsNumbering p.units number total → IsLinkage p.units (numbered p.units main number)
