-- A linked program by the linkage of its units of FORTRAN alone: that of the source follows from it.
use Rattle.std.proofs.Common.{◌≡◌, ◌≢◌, ℕ, ◌<◌, List, Option, Some, None, refl, ◌∙◌}
use Rattle.ground.specs.declared.place.Place.{Place}
use Rattle.f66_tree.specs.Syntax.{Text, Line}
use Rattle.f66_tree.specs.World.{Record, Lost}
use Rattle.f66_tree.specs.Units.{name_of, Context, notes_of, Linkage}
use Rattle.f66_tree.specs.Uses.{NamesOfLinesBy}
use Rattle.f66_tree.specs.Execution.{f66}
use Rattle.f66_tree.specs.Agreement.{Agrees}
use Rattle.rat_tree.specs.Syntax.{Commands}
use Rattle.rat_tree.specs.Meaning.{Body, Ours, Theirs}
use Rattle.rat_lower.specs.Code.{have_switch, unit_code}
use Rattle.rat_lower.specs.Checked.{IsChecked}
use Rattle.rat_lower.specs.Linkages.{source_context, source_of, means_linked}
use Rattle.rat_lower.proofs.Simulation.LinkedUnits.{spare_of}
use Rattle.rat_lower.proofs.Simulation.Linked.{Below, IsUnitOf, Linked, linked_agrees, linked_found}

-- the checked unit of Ratfor with the body ss becomes the unit of FORTRAN with these statements, in which names mean c
pub record Made (c : Context) (spare : Option Text) (ss : Commands) (code : List Line) : Type 0 where
  pub made : ℕ → ℕ
  pub name : Text
  pub first : Place
  pub last : Place
  pub checked : IsChecked made name c.header ss
  pub is_code : code ≡ unit_code made name c.header first last ss
  pub is_spare : spare ≡ spare_of (have_switch ss) name
  pub notes : c.notes ≡ notes_of code

abbrev pub IsMade : Context → Option Text → Body → List Line → Type 0
IsMade c spare (Ours ss) code = Made c spare ss code
IsMade c spare (Theirs lines) code = (code ≡ lines) × (spare ≡ None)

-- What is asked of the units of a linked program: each is made of one of Ratfor, or stands beside; a name leads to the unit that it
-- names; the number of a spare name's storage unit is that of no other place; and each call leads to a unit of lesser rank.
pub record AreLinked (l : Linkage) (bodies : ℕ → Body) (codes : ℕ → List Line) : Type 0 where
  pub spares : ℕ → Option Text
  pub rank : ℕ → ℕ
  pub many : ℕ
  pub units : (u : ℕ) → IsMade (l.context u) (spares u) (bodies u) (codes u)
  pub named : (x : Text) (v : ℕ) → l.find x ≡ Some v → name_of (l.context v).header ≡ x
  pub apart : (u : ℕ) (y : Text) → spares u ≡ Some y → (v : ℕ) (x : Text) (o : ℕ) → l.number v x o ≡ l.number u y 0 → (v ≡ u) × (x ≡ y)
  pub within : (u : ℕ) (y : Text) → spares u ≡ Some y → u < many
  pub below : (u : ℕ) → NamesOfLinesBy (Below l rank u) (codes u)
  pub deep : rank l.main < l.deep

module _ (l : Linkage) (bodies : ℕ → Body) (codes : ℕ → List Line) (h : AreLinked l bodies codes) where
  unit_of : (c : Context) (spare : Option Text) (o : Body) (code : List Line) → IsMade c spare o code → IsUnitOf c (source_context c o) spare o code
  unit_of c spare (Ours ss) code m =
      record { made = m.made; name = m.name; first = m.first; last = m.last; checked = m.checked; is_code = m.is_code; is_spare = m.is_spare; header = refl; notes1 = m.notes; notes2 = refl }
  unit_of c spare (Theirs lines) code m = (m.0, m.1, refl)

  same_header : (c : Context) (o : Body) → name_of (source_context c o).header ≡ name_of c.header
  same_header c (Ours ss) = refl
  same_header c (Theirs lines) = refl

  abbrev linked : Linked
  linked = record {
    target = l;
    source = source_of l bodies;
    codes = codes;
    bodies = bodies;
    spares = h.spares;
    rank = h.rank;
    many = h.many;
    units = λ u. unit_of (l.context u) (h.spares u) (bodies u) (codes u) (h.units u);
    find = λ x. refl;
    named = λ x v e. same_header (l.context v) (bodies v) ∙ h.named x v e;
    main = refl;
    first = λ q. refl;
    numbers = λ u x o other. refl;
    apart = h.apart;
    within = h.within;
    below = h.below;
    deep = h.deep;
  }

  -- the units do what the program means, which is never lost
  pub units_agree : (input : List Record) → Agrees (means_linked l bodies input) (f66 l codes input)
  units_agree input = linked_agrees linked input

  pub never_lost : (input : List Record) (b : ℕ) → (means_linked l bodies input b).end ≢ Lost
  never_lost input b = linked_found linked input b
