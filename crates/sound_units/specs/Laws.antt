-- What the checks of a unit give those that take its COMMON and EQUIVALENCE (X3.9-1966, sections 7.2.1 and 10.1).
use Rattle.f66_tree.specs.Syntax.{Routine}
use Rattle.f66_check.specs.Answers.{IsSoundUnit}
use Rattle.storage_assoc.specs.Naming.{IsReady}

-- a sound unit is ready for its association
abbrev pub SoundIsReady : Type 0
SoundIsReady = (u : Routine) → IsSoundUnit u → IsReady u
