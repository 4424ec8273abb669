-- None of those before is such a one.
use Rattle.std.proofs.Common.{◌≡◌, drop, map}
use Rattle.std.specs.List.{list_any}
use Rattle.f66_tree.specs.Views.{par_of}
use Rattle.stmt_reader.specs.Faults.{par_has}
use Rattle.stmt_faults.specs.Asking.{asked_of}
use Rattle.stmt_faults.proofs.expressions.pars_have.Given as goal

abbrev pub invariant-loop-par : goal.invariant-loop-par
invariant-loop-par l = list_any (par_has (asked_of l.ask)) (map par_of (drop l.par-index l.list)) ≡ list_any (par_has (asked_of l.ask)) (map par_of l.list)
