-- Those before may be handed over.
use Rattle.std.proofs.Common.{◌≡◌, drop}
use Rattle.f66_tree.specs.Views.{formulas_of}
use Rattle.f66_names.specs.DeclarationViews.{context_in}
use Rattle.unit_rules.specs.Types.{are_passed}
use Rattle.unit_rules.proofs.types.are_passed.Given as goal

abbrev pub invariant-loop-e : goal.invariant-loop-e
invariant-loop-e l = are_passed (context_in l.declarations) (formulas_of (drop l.e-index l.list)) ≡ are_passed (context_in l.declarations) (formulas_of l.list)
