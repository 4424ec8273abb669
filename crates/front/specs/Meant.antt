-- What a whole program of Ratfor means: by any linkage of what its units say.
use Rattle.std.specs.Prelude.{◌≡◌}
use Rattle.f66_tree.specs.Units.{Linkage}
use Rattle.f66_program.specs.Linking.{IsLinkage}
use Rattle.rat_tree.specs.Syntax.{RatProgram}
use Rattle.rat_said.specs.Said.{said_program}
use Rattle.rat_linked.specs.Meaning.{means_program}
use Rattle.front.specs.Checked.{Meaning}

-- In each unit names mean what it declares, calls lead to the units that they name, and a place has the number of another exactly
-- where they are one storage unit. However the storage units are numbered, this is what the program means.
pub record IsMeaningOf (p : RatProgram) (meaning : Meaning) : Type 0 where
  pub linkage : Linkage
  pub links : IsLinkage (said_program p).units linkage
  pub is : meaning ≡ means_program p.routines linkage
