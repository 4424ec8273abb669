-- The laws of units and their faults.
use Rattle.std.specs.Prelude.{◌≡◌}
use Rattle.ground.specs.declared.fault.Fault.{Fault}
use Rattle.ground.specs.declared.place.Place.{Place}
use Rattle.f66_program.specs.Linking.{Program}
use Rattle.deck_reader.specs.Units.{Units}
use Rattle.deck_link.specs.Linking.{IsAccepted, IsDeckFault, IsFirstFaultOf}

-- units that are accepted have no fault
abbrev pub AcceptedHasNone : Type 0
AcceptedHasNone = (p : Program) (f : Fault) → IsAccepted p → ¬ IsFirstFaultOf p f

-- what a deck says has at most one first fault
abbrev pub OneFirstFault : Type 0
OneFirstFault = (told : Units) (finish : Place) (f g : Fault) → IsDeckFault told finish f → IsDeckFault told finish g → f ≡ g
