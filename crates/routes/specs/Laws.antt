-- The law that units of FORTRAN do what their routes do.
use Rattle.std.specs.Prelude.{ℕ, List}
use Rattle.f66_tree.specs.World.{Record}
use Rattle.f66_tree.specs.Execution.{f66}
use Rattle.routes.specs.Running.{routed}
use Rattle.routes.specs.Units.{Units, Reaches}

-- linked units come to what their routes show, within the statements that those count
abbrev pub UnitsReachRoutes : Type 0
UnitsReachRoutes = (c : Units) (b : ℕ) (input : List Record) → Reaches b (routed c.linked c.bodies b input) (f66 c.linked c.codes input)
