-- Those before have given their uses.
use Rattle.std.proofs.Common.{◌≡◌, ◌++◌, map, drop}
use Rattle.f66_tree.specs.Views.{formulas_of}
use Rattle.f66_names.specs.Uses.{uses_of_all}
use Rattle.f66_names.specs.UseViews.{use_of}
use Rattle.f66_names.proofs.uses.+collect.Given as goal

abbrev pub invariant-collect_all-loop-e : goal.invariant-collect_all-loop-e
invariant-collect_all-loop-e l = map use_of l.uses.items ++ uses_of_all (formulas_of (drop l.e-index l.list)) ≡ map use_of l.initial.uses.items ++ uses_of_all (formulas_of l.list)
