-- The places before have their values.
use Rattle.std.proofs.Common.{◌≡◌, ◌++◌, map, drop}
use Rattle.f66_tree.specs.Views.{formula_of}
use Rattle.f66_program.specs.Initial.{paired}
use Rattle.f66_mentions.specs.UnitViews.{context_in}
use Rattle.storage_rules.specs.Presets.{content_seen, preset_seen}
use Rattle.storage_rules.proofs.gathering.add_places.Given as goal

abbrev pub invariant-loop-k : goal.invariant-loop-k
invariant-loop-k l = map preset_seen l.presets.items ++ paired l.unit l.part (context_in l.names) (map formula_of (drop l.k l.places)) (map content_seen (drop l.k l.values))
    ≡ map preset_seen l.initial.presets.items ++ paired l.unit l.part (context_in l.names) (map formula_of l.places) (map content_seen l.values)
