-- The subscripts before are within their dimensions.
use Rattle.std.proofs.Common.{◌≡◌, map, drop}
use Rattle.f66_tree.specs.Views.{par_of, formulas_of}
use Rattle.unit_rules.specs.Storage.{are_within}
use Rattle.unit_rules.proofs.presets.are_within.Given as goal

abbrev pub invariant-loop-e : goal.invariant-loop-e
invariant-loop-e l = are_within (map par_of l.rest) (formulas_of (drop l.e-index l.list)) ≡ are_within (map par_of l.sizes) (formulas_of l.list)
