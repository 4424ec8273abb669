-- Those before are added.
use Rattle.std.proofs.Common.{◌≡◌, ◌++◌, drop}
use Rattle.f66_tree.specs.Views.{formulas_of}
use Rattle.f66_names.specs.ActViews.{acts_of}
use Rattle.rat_check.specs.Said.{value_acts}
use Rattle.rat_check.proofs.said.add_values.Given as goal

abbrev pub invariant-loop-e : goal.invariant-loop-e
invariant-loop-e l = acts_of l.sayings.items ++ value_acts (formulas_of (drop l.e-index l.list)) ≡ acts_of l.initial.sayings.items ++ value_acts (formulas_of l.list)
