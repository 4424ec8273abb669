-- The lists before have given their places.
use Rattle.std.proofs.Common.{◌≡◌, ◌++◌, map, drop}
use Rattle.std.specs.List.{flat_map}
use Rattle.f66_tree.specs.Views.{preset_of}
use Rattle.f66_program.specs.Initial.{part_presets}
use Rattle.f66_mentions.specs.UnitViews.{context_in}
use Rattle.storage_rules.specs.Presets.{preset_seen}
use Rattle.storage_rules.proofs.gathering.add_parts.Given as goal

abbrev pub invariant-loop-places : goal.invariant-loop-places
invariant-loop-places l = map preset_seen l.presets.items ++ flat_map (part_presets l.unit l.part (context_in l.names)) (map preset_of (drop l.places-index l.parts))
    ≡ map preset_seen l.initial.presets.items ++ flat_map (part_presets l.unit l.part (context_in l.names)) (map preset_of l.parts)
