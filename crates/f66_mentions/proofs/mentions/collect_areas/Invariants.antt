-- Those before have given their names.
use Rattle.std.proofs.Common.{◌≡◌, ◌++◌, map, drop}
use Rattle.std.specs.List.{flat_map}
use Rattle.f66_tree.specs.Views.{area_of}
use Rattle.f66_program.specs.Mentions.{AVariable, mentions_of_sizes}
use Rattle.f66_mentions.specs.UnitViews.{mention_of}
use Rattle.f66_mentions.proofs.mentions.collect_areas.Given as goal

abbrev pub invariant-loop-area : goal.invariant-loop-area
invariant-loop-area l = map mention_of l.mentions.items ++ flat_map (λ a. map (λ d. AVariable d.name) a.list ++ mentions_of_sizes a.list) (map area_of (drop l.area-index l.areas)) ≡ map mention_of l.initial.mentions.items ++ flat_map (λ a. map (λ d. AVariable d.name) a.list ++ mentions_of_sizes a.list) (map area_of l.areas)
