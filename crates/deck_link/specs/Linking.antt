-- The first fault of a deck: of its cards and its statements, then of its units one by one, then of linking.
use Rattle.std.specs.Prelude.{◌≡◌, ◌⊎◌, List, Ok, Err, ⊤}
use Rattle.std.specs.List.{AllByRecursion}
use Rattle.ground.specs.declared.place.Place.{Place}
use Rattle.ground.specs.declared.fault.Fault.{Fault}
use Rattle.ground.specs.declared.fault.Refusal.{Refusal}
use Rattle.ground.specs.declared.fault.Refusal.TheVariants as refusals
use Rattle.f66_tree.specs.Syntax.{Routine}
use Rattle.f66_program.specs.Linking.{Program, IsFirstFault, IsWhole}
use Rattle.deck_reader.specs.Units.{Units}
use Rattle.deck_link.specs.Units.{IsClean, IsFirstUnitFault}

-- ---- units with the end of their deck ----

abbrev pub AreClean : List Routine → Type 0
AreClean rs = AllByRecursion IsClean rs

-- behind the faults of all units the rules of linking are asked in their order
abbrev pub IsFirstFaultOf : Program → Fault → Type 0
IsFirstFaultOf p f = IsFirstUnitFault p.units f ⊎ (AreClean p.units × IsFirstFault p f)

-- units without a fault, which link
pub record IsAccepted (p : Program) : Type 0 where
  pub units : AreClean p.units
  pub whole : IsWhole p

abbrev pub IsRefusedProgram : Program → Refusal → Type 0
IsRefusedProgram p (refusals.Fault f) = IsFirstFaultOf p f
IsRefusedProgram p refusals.Memory = ⊤

-- ---- a deck ----

-- the fault of the cards, the statements and the headers goes before those of the units that they give
abbrev pub IsDeckFault : Units → Place → Fault → Type 0
IsDeckFault (Err g) finish f = g ≡ f
IsDeckFault (Ok units) finish f = IsFirstFaultOf (record { units = units; finish = finish }) f

abbrev pub IsRefusedDeck : Units → Place → Refusal → Type 0
IsRefusedDeck units finish (refusals.Fault f) = IsDeckFault units finish f
IsRefusedDeck units finish refusals.Memory = ⊤
