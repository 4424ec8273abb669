-- Those before are arguments.
use Rattle.std.proofs.Common.{◌≡◌, drop}
use Rattle.f66_tree.specs.Views.{formulas_of}
use Rattle.unit_rules.specs.Forms.{are_passed_forms}
use Rattle.unit_rules.proofs.forms.are_passed_forms.Given as goal

abbrev pub invariant-loop-e : goal.invariant-loop-e
invariant-loop-e l = are_passed_forms (formulas_of (drop l.e-index l.list)) ≡ are_passed_forms (formulas_of l.list)
