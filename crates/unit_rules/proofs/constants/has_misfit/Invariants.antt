-- The values before fit their places.
use Rattle.std.proofs.Common.{◌≡◌, map, drop}
use Rattle.f66_tree.specs.Views.{formula_of, initial_of}
use Rattle.f66_names.specs.DeclarationViews.{context_in}
use Rattle.unit_rules.specs.Storage.{has_misfit}
use Rattle.unit_rules.proofs.constants.has_misfit.Given as goal

abbrev pub invariant-loop-value : goal.invariant-loop-value
invariant-loop-value l = has_misfit (context_in l.declarations) (map formula_of l.rest) (map initial_of (drop l.value-index l.values)) ≡ has_misfit (context_in l.declarations) (map formula_of l.places) (map initial_of l.values)
