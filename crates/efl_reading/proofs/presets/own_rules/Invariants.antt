-- What stands before has been seen.
use Rattle.std.proofs.Common.{◌≡◌, drop, map, flat_map}
use Rattle.efl_tree.specs.Syntax.{EflProcedure}
use Rattle.efl_tree.specs.Views.{preset_of}
use Rattle.efl_types.specs.Signatures.{Names}
use Rattle.efl_types.specs.Presets.{preset_faults}
use Rattle.efl_scoped.specs.Numbers.{Table}
use Rattle.efl_expressions.specs.FirstRule.{or_lower, first_rule}
use Rattle.efl_names.specs.NameViews.{Stands}
use Rattle.efl_blocks.specs.HomeViews.{AreHomes}
use Rattle.efl_initial_values.specs.Owners.{AreAreas}
use Rattle.efl_reading.proofs.presets.own_rules.Given as goal

abbrev pub invariant-loop-preset : goal.invariant-loop-preset
invariant-loop-preset l = (f : Table) (n : Names) (u : EflProcedure) → Stands f n l.names → AreHomes u n.blocks l.site.homes.now → AreAreas u l.site.procedure.now.areas.now → u.formals ≡ l.site.procedure.now.formals.now →
    or_lower l.rule (first_rule (flat_map (preset_faults u n l.is_outer) (map preset_of (drop l.preset-index l.presets)))) ≡ first_rule (flat_map (preset_faults u n l.is_outer) (map preset_of l.presets))
