-- Laws of what accepted EFL texts mean.
use Rattle.std.specs.Prelude.{◌≡◌, ◌≢◌, ◌<◌, ℕ, List, length, slice_index_or, None}
use Rattle.f66_tree.specs.World.{Record, Lost}
use Rattle.call_cycles.specs.Cycles.{Fall}
use Rattle.efl_tree.specs.Syntax.{EflProgram}
use Rattle.efl_scope.specs.FirstFault.{first_fault}
use Rattle.efl_types.specs.Whole.{edges_of}
use Rattle.efl_program.specs.Scoping.{Scoping}
use Rattle.efl_typed.specs.Typing.{bodies_of}
use Rattle.efl_typed.specs.Linking.{linkage_of, efl_meaning}

-- the scopes have no fault, and ranks below the number of procedures fall along each call
pub record IsAccepted (p : EflProgram) (ranks : List ℕ) : Type 0 where
  pub scopes : first_fault p ≡ None
  pub falls : Fall ranks (edges_of p)
  pub low : slice_index_or ranks (linkage_of p).main 0 < length p.procedures

-- each jump, `break` and `next` of an accepted text has where to go, and its calls go down
abbrev pub AcceptedIsScoped : Type 0
AcceptedIsScoped = (p : EflProgram) (ranks : List ℕ) → IsAccepted p ranks → Scoping (linkage_of p) (bodies_of p)

-- so it means something at every bound over every input
abbrev pub AcceptedNeverLost : Type 0
AcceptedNeverLost = (p : EflProgram) (ranks : List ℕ) → IsAccepted p ranks → (b : ℕ) (input : List Record) → (efl_meaning p b input).end ≢ Lost
