-- The expressions before are copied.
use Rattle.std.proofs.Common.{◌≡◌, map, take}
use Rattle.f66_tree.specs.Views.{formula_of}
use Rattle.f66_tree.proofs.expression.+copy.Given as goal

abbrev pub invariant-copy_exprs-loop-e : goal.invariant-copy_exprs-loop-e
invariant-copy_exprs-loop-e l = map formula_of l.copies.items ≡ map formula_of (take l.e-index l.list)
