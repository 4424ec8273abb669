-- The members of the groups before are there.
use Rattle.std.proofs.Common.{◌≡◌, ◌++◌, map, drop}
use Rattle.std.specs.List.{flat_map}
use Rattle.f66_tree.specs.Views.{formula_of}
use Rattle.unit_rules.proofs.listed.groups_in.Given as goal

abbrev pub invariant-loop-group : goal.invariant-loop-group
invariant-loop-group l = map (λ e. formula_of e.now) l.all.items ++ flat_map (λ g. g) (map (λ group. map formula_of group.items) (drop l.group-index l.groups)) ≡ flat_map (λ g. g) (map (λ group. map formula_of group.items) l.groups)
