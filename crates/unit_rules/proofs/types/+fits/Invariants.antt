-- Those before have their types.
use Rattle.std.proofs.Common.{◌≡◌, drop}
use Rattle.f66_tree.specs.Views.{formulas_of}
use Rattle.f66_names.specs.DeclarationViews.{context_in}
use Rattle.unit_rules.specs.Types.{are_integers, are_actuals}
use Rattle.unit_rules.proofs.types.+fits.Given as goal

abbrev pub invariant-are_integers-loop-e : goal.invariant-are_integers-loop-e
invariant-are_integers-loop-e l = are_integers (context_in l.declarations) (formulas_of (drop l.e-index l.list)) ≡ are_integers (context_in l.declarations) (formulas_of l.list)

abbrev pub invariant-are_actuals-loop-e : goal.invariant-are_actuals-loop-e
invariant-are_actuals-loop-e l = are_actuals (context_in l.declarations) (formulas_of (drop l.e-index l.list)) ≡ are_actuals (context_in l.declarations) (formulas_of l.list)
