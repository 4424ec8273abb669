-- Those before are constants.
use Rattle.std.proofs.Common.{◌≡◌, drop}
use Rattle.f66_tree.specs.Views.{formulas_of}
use Rattle.unit_rules.specs.Storage.{are_numbers}
use Rattle.unit_rules.proofs.constants.are_numbers.Given as goal

abbrev pub invariant-loop-e : goal.invariant-loop-e
invariant-loop-e l = are_numbers (formulas_of (drop l.e-index l.list)) ≡ are_numbers (formulas_of l.list)
