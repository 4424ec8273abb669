-- Those before are built.
use Rattle.std.proofs.Common.{◌≡◌, drop}
use Rattle.efl_tree.specs.Views.{exprs_of}
use Rattle.efl_built.specs.Unbuilt.{unbuilt_exprs}
use Rattle.efl_built.proofs.expressions.+is_expression_unbuilt.Given as goal

abbrev pub invariant-are_some_unbuilt-loop-e : goal.invariant-are_some_unbuilt-loop-e
invariant-are_some_unbuilt-loop-e l = unbuilt_exprs (exprs_of (drop l.e-index l.list)) ≡ unbuilt_exprs (exprs_of l.list)
