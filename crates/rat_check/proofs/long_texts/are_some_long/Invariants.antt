-- Those before are none.
use Rattle.std.proofs.Common.{◌≡◌, drop}
use Rattle.f66_tree.specs.Views.{formulas_of}
use Rattle.rat_check.specs.LongTexts.{are_some_long}
use Rattle.rat_check.proofs.long_texts.are_some_long.Given as goal

abbrev pub invariant-loop-e : goal.invariant-loop-e
invariant-loop-e l = are_some_long (formulas_of (drop l.e-index l.list)) ≡ are_some_long (formulas_of l.list)
