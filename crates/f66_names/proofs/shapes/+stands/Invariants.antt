-- Those before are expressions.
use Rattle.std.proofs.Common.{◌≡◌, drop}
use Rattle.f66_tree.specs.Views.{formulas_of}
use Rattle.f66_names.specs.Shapes.{stand_all}
use Rattle.f66_names.proofs.shapes.+stands.Given as goal

abbrev pub invariant-stand_all-loop-e : goal.invariant-stand_all-loop-e
invariant-stand_all-loop-e l = stand_all (formulas_of (drop l.e-index l.list)) ≡ stand_all (formulas_of l.list)
