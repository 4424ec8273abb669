-- The laws of first faults that units of FORTRAN and of Ratfor share.
use Rattle.std.specs.Prelude.{◌≡◌}
use Rattle.ground.specs.declared.fault.Fault.{Fault}
use Rattle.f66_tree.specs.Syntax.{Routine}
use Rattle.f66_program.specs.Association.{IsBadUnit}
use Rattle.f66_program.specs.Linking.{Program, IsFirstFault}
use Rattle.storage_assoc.specs.Associating.{IsBadFault}

-- a unit has one fault of its association at most
abbrev pub OneBadFault : Type 0
OneBadFault = (r : Routine) (f g : Fault) → IsBadFault r f → IsBadFault r g → f ≡ g

-- and is bad where it has one
abbrev pub BadIsWhole : Type 0
BadIsWhole = (r : Routine) (f : Fault) → IsBadFault r f → IsBadUnit r

-- units have one first fault of linking at most
abbrev pub OneLinkFault : Type 0
OneLinkFault = (p : Program) (f g : Fault) → IsFirstFault p f → IsFirstFault p g → f ≡ g
