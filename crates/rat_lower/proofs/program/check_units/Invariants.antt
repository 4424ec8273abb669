-- The units before have no fault.
use Rattle.std.proofs.Common.{◌≡◌, drop, map}
use Rattle.rat_tree.specs.Views.{rat_routine_of}
use Rattle.rat_check.specs.FirstFault.{first_fault_of}
use Rattle.rat_lower.proofs.program.check_units.Given as goal

abbrev pub invariant-loop-unit : goal.invariant-loop-unit
invariant-loop-unit l = first_fault_of (map rat_routine_of l.units) ≡ first_fault_of (map rat_routine_of (drop l.unit-index l.units))
