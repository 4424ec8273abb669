-- Those before have given their uses.
use Rattle.std.proofs.Common.{◌≡◌, ◌++◌, map, drop}
use Rattle.std.specs.List.{flat_map}
use Rattle.f66_tree.specs.Views.{declared_of}
use Rattle.f66_names.specs.UseViews.{use_of}
use Rattle.unit_rules.specs.Listed.{uses_of_listed}
use Rattle.unit_rules.proofs.more_uses.collect_listed.Given as goal

abbrev pub invariant-loop-declared : goal.invariant-loop-declared
invariant-loop-declared l = map use_of l.uses.items ++ flat_map uses_of_listed (map (λ x. declared_of x.now) (drop l.declared-index l.list)) ≡ map use_of l.initial.uses.items ++ flat_map uses_of_listed (map (λ x. declared_of x.now) l.list)
