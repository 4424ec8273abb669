-- The actuals of a call, which take no temporary where they are places.
use Rattle.std.specs.Prelude.{Option, Some, None}
use Rattle.efl_program.specs.Typed.{Expr, At, Site}

-- the place that an actual is
abbrev pub place_in : Expr → Option Site
place_in (At x) = Some x
place_in _ = None
