-- What the checks of a unit give those that take its COMMON and EQUIVALENCE.
use Rattle.std.specs.Prelude.{◌≡◌, None}
use Rattle.rat_tree.specs.Syntax.{RatRoutine}
use Rattle.rat_check.specs.FirstFault.{unit_fault}
use Rattle.rat_said.specs.Said.{said_routine}
use Rattle.storage_assoc.specs.Naming.{IsReady}

-- what a unit says that breaks no rule of its checks is ready for its association
abbrev pub SaidIsReady : Type 0
SaidIsReady = (u : RatRoutine) → unit_fault u ≡ None → IsReady (said_routine u)
