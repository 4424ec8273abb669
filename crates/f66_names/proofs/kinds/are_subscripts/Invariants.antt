-- Those before are subscripts.
use Rattle.std.proofs.Common.{◌≡◌, drop}
use Rattle.f66_tree.specs.Views.{formulas_of}
use Rattle.f66_names.specs.Kinds.{are_subscripts}
use Rattle.f66_names.specs.DeclarationViews.{context_in}
use Rattle.f66_names.proofs.kinds.are_subscripts.Given as goal

abbrev pub invariant-loop-e : goal.invariant-loop-e
invariant-loop-e l = are_subscripts (context_in l.declarations) (formulas_of (drop l.e-index l.list)) ≡ are_subscripts (context_in l.declarations) (formulas_of l.list)
