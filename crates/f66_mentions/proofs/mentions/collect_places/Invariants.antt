-- Those before have given their names.
use Rattle.std.proofs.Common.{◌≡◌, ◌++◌, map, drop}
use Rattle.std.specs.List.{flat_map}
use Rattle.f66_tree.specs.Views.{formula_of}
use Rattle.f66_program.specs.Mentions.{mentions_of}
use Rattle.f66_mentions.specs.UnitViews.{context_in, mention_of}
use Rattle.f66_mentions.proofs.mentions.collect_places.Given as goal

abbrev pub invariant-loop-e : goal.invariant-loop-e
invariant-loop-e l = map mention_of l.mentions.items ++ flat_map (mentions_of (context_in l.names)) (map formula_of (drop l.e-index l.list)) ≡ map mention_of l.initial.mentions.items ++ flat_map (mentions_of (context_in l.names)) (map formula_of l.list)
