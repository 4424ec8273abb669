-- Those before have given their names.
use Rattle.std.proofs.Common.{◌≡◌, ◌++◌, map, drop}
use Rattle.std.specs.List.{flat_map}
use Rattle.f66_tree.specs.Views.{preset_of}
use Rattle.f66_program.specs.Mentions.{mentions_of}
use Rattle.f66_mentions.specs.UnitViews.{context_in, mention_of}
use Rattle.f66_mentions.proofs.mentions.collect_presets.Given as goal

abbrev pub invariant-loop-part : goal.invariant-loop-part
invariant-loop-part l = map mention_of l.mentions.items ++ flat_map (λ p. flat_map (mentions_of (context_in l.names)) p.places) (map preset_of (drop l.part-index l.parts)) ≡ map mention_of l.initial.mentions.items ++ flat_map (λ p. flat_map (mentions_of (context_in l.names)) p.places) (map preset_of l.parts)
