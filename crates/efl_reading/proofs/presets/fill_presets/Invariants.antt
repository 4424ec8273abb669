-- What stands before meets nothing, and is filled.
use Rattle.std.proofs.Common.{drop, map, flat_map}
use Rattle.efl_tree.specs.Syntax.{EflProcedure}
use Rattle.efl_tree.specs.Views.{preset_of}
use Rattle.efl_types.specs.Signatures.{Names}
use Rattle.efl_types.specs.Presets.{filled}
use Rattle.efl_scoped.specs.Numbers.{Table}
use Rattle.efl_scoped.specs.Seen.{table_of}
use Rattle.efl_names.specs.NameViews.{Stands}
use Rattle.efl_blocks.specs.HomeViews.{AreHomes}
use Rattle.efl_initial_values.specs.Fills.{ends_of}
use Rattle.efl_initial_values.specs.Owners.{AreAreas}
use Rattle.efl_reading.proofs.PresetLemmas.{FillsOn}
use Rattle.efl_reading.proofs.presets.fill_presets.Given as goal

abbrev pub invariant-loop-preset : goal.invariant-loop-preset
invariant-loop-preset l = (f : Table) (n : Names) (u : EflProcedure) → Stands f n l.names → AreHomes u n.blocks l.site.homes.now → AreAreas u l.site.procedure.now.areas.now →
    let g = filled l.site.procedure.now.unit u n in
    FillsOn (table_of l.fn.owners) (ends_of l.fn.fills.ends) (flat_map g (map preset_of l.presets)) (table_of l.owners) (ends_of l.fills.ends) (flat_map g (map preset_of (drop l.preset-index l.presets)))
