-- None of those before is such a one.
use Rattle.std.proofs.Common.{◌≡◌, drop, map}
use Rattle.f66_tree.specs.Views.{formulas_of}
use Rattle.stmt_reader.specs.Faults.{formulas_have}
use Rattle.stmt_faults.specs.Asking.{asked_of}
use Rattle.stmt_faults.proofs.expressions.+formula_has.Given as goal

abbrev pub invariant-formulas_have-loop-e : goal.invariant-formulas_have-loop-e
invariant-formulas_have-loop-e l = formulas_have (asked_of l.ask) (formulas_of (drop l.e-index l.list)) ≡ formulas_have (asked_of l.ask) (formulas_of l.list)
