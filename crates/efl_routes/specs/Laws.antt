-- The law that a program of EFL and the units that it becomes agree.
use Rattle.std.specs.Prelude.{◌≡◌, List}
use Rattle.f66_tree.specs.World.{Record}
use Rattle.f66_tree.specs.Execution.{f66}
use Rattle.f66_tree.specs.Agreement.{Agrees}
use Rattle.efl_program.specs.Meaning.{efl}
use Rattle.efl_program.specs.Scoping.{Scoping}
use Rattle.efl_routes.specs.LoweredProgram.{LoweredProgram, Begins}
use Rattle.routes.specs.Units.{Units}

-- a program over scalar variables, calls among its procedures, agrees with the units of its routes
abbrev pub ScalarProgramsAgree : Type 0
ScalarProgramsAgree =
    (p : LoweredProgram) → Begins p → (c : Units) → p.target ≡ c.linked → p.code ≡ c.bodies → Scoping p.source p.bodies → (input : List Record) → Agrees (λ b. efl p.source p.bodies b input) (λ n. f66 c.linked c.codes input n)
