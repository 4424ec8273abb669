-- Those before have given their names.
use Rattle.std.proofs.Common.{◌≡◌, ◌++◌, map, drop}
use Rattle.std.specs.List.{flat_map}
use Rattle.f66_tree.specs.Views.{formula_of}
use Rattle.f66_program.specs.Mentions.{mentions_of}
use Rattle.f66_mentions.specs.UnitViews.{context_in, mention_of}
use Rattle.f66_mentions.proofs.mentions.collect_groups.Given as goal

abbrev pub invariant-loop-group : goal.invariant-loop-group
invariant-loop-group l = map mention_of l.mentions.items ++ flat_map (λ es. flat_map (mentions_of (context_in l.names)) es) (map (λ group. map formula_of group.items) (drop l.group-index l.groups)) ≡ map mention_of l.initial.mentions.items ++ flat_map (λ es. flat_map (mentions_of (context_in l.names)) es) (map (λ group. map formula_of group.items) l.groups)
