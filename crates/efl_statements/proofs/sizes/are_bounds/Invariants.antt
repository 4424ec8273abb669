-- Those before are bounds, and those behind.
use Rattle.std.proofs.Common.{◌≡◌, ◌&&◌, drop}
use Rattle.efl_types.specs.Declarations.{are_bounds}
use Rattle.efl_statements.proofs.sizes.are_bounds.Given as goal

abbrev pub invariant-loop-i : goal.invariant-loop-i
invariant-loop-i l = (l.all && are_bounds l.is_formal (drop l.i l.bounds)) ≡ are_bounds l.is_formal l.bounds
