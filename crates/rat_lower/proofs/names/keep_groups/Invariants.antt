-- Those left are still to be kept.
use Rattle.std.proofs.Common.{◌≡◌, map, drop}
use Rattle.std.specs.List.{flat_map}
use Rattle.f66_tree.specs.Views.{formula_of}
use Rattle.f66_names.specs.Uses.{uses_of_target}
use Rattle.name_alloc.specs.MadeNames.{keeping_all}
use Rattle.rat_lower.specs.Emitted.{names_used}
use Rattle.rat_lower.proofs.names.keep_groups.Given as goal

abbrev pub invariant-loop-group : goal.invariant-loop-group
invariant-loop-group l = keeping_all (flat_map (λ g. flat_map (λ e. names_used (uses_of_target e)) g) (map (λ group. map formula_of group.items) (drop l.group-index l.groups))) l.names ≡ keeping_all (flat_map (λ g. flat_map (λ e. names_used (uses_of_target e)) g) (map (λ group. map formula_of group.items) l.groups)) l.initial.names
