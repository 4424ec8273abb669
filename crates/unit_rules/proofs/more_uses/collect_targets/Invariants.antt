-- Those before have given their uses.
use Rattle.std.proofs.Common.{◌≡◌, ◌++◌, map, drop}
use Rattle.std.specs.List.{flat_map}
use Rattle.f66_tree.specs.Views.{formula_of}
use Rattle.f66_names.specs.UseViews.{use_of}
use Rattle.f66_names.specs.Uses.{uses_of_target}
use Rattle.unit_rules.proofs.more_uses.collect_targets.Given as goal

abbrev pub invariant-loop-e : goal.invariant-loop-e
invariant-loop-e l = map use_of l.uses.items ++ flat_map uses_of_target (map (λ x. formula_of x.now) (drop l.e-index l.list)) ≡ map use_of l.initial.uses.items ++ flat_map uses_of_target (map (λ x. formula_of x.now) l.list)
