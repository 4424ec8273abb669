-- The procedures before are built.
use Rattle.std.proofs.Common.{◌≡◌, drop, map}
use Rattle.efl_tree.specs.Views.{procedure_of}
use Rattle.efl_built.specs.Walks.{first_in_procedures}
use Rattle.efl_built.proofs.procedures.first_in_procedures.Given as goal

abbrev pub invariant-loop-procedure : goal.invariant-loop-procedure
invariant-loop-procedure l = first_in_procedures (map procedure_of (drop l.procedure-index l.list)) ≡ first_in_procedures (map procedure_of l.list)
