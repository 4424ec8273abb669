-- The statements before have given their places.
use Rattle.std.proofs.Common.{◌≡◌, ◌++◌, map, drop}
use Rattle.f66_tree.specs.Views.{line_of}
use Rattle.f66_program.specs.Initial.{line_presets}
use Rattle.f66_mentions.specs.UnitViews.{context_in}
use Rattle.storage_rules.specs.Presets.{preset_seen}
use Rattle.storage_rules.proofs.gathering.add_unit.Given as goal

abbrev pub invariant-loop-part : goal.invariant-loop-part
invariant-loop-part l = map preset_seen l.presets.items ++ line_presets l.fn.number l.part (context_in l.names) (map line_of (drop l.part l.unit.statements.items))
    ≡ map preset_seen l.initial.presets.items ++ line_presets l.fn.number 0 (context_in l.names) (map line_of l.unit.statements.items)
