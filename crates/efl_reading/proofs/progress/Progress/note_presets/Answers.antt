-- A fault stays, and else the part tells its own, and what it fills and gives comes.
use Rattle.std.proofs.Common.{◌≡◌, nat_eq, length, [], ◌∷◌, map, flat_map, sym, ap, subst, ◌∙◌}
use Rattle.std.specs.List.{slice_get}
use Rattle.efl_tree.specs.Syntax.{Initial}
use Rattle.efl_tree.specs.Views.{preset_of}
use Rattle.efl_scope.specs.Parts.{Declares, part}
use Rattle.efl_types.specs.Presets.{preset_faults, filled}
use Rattle.efl_types.specs.TypeRules.{names_of, is_outer}
use Rattle.efl_scoped.specs.Seen.{table_of}
use Rattle.efl_expressions.specs.FirstRule.{first_rule}
use Rattle.efl_initial_values.specs.Fills.{ends_of}
use Rattle.efl_reading.specs.declared.progress.Progress.{Progress}
use Rattle.efl_reading.specs.Reading.{FillsMore}
use Rattle.efl_reading.proofs.ReadingLemmas.{behind_done}
use Rattle.efl_reading.proofs.PresetLemmas.{presets_noted}
use Rattle.efl_reading.proofs.progress.Progress.note_presets.Goals as goal

pub returns-then-is_done : goal.returns-then-is_done
returns-then-is_done c = λ us u a before vs site known.
    behind_done us vs (part a c.args.place (Declares before (Initial (map preset_of c.args.presets.now))) ∷ []) c.args.self.now (sym c.if-is_done.ensures) known

pub returns : goal.returns
returns c = λ us u a before vs site known.
    let ps = map preset_of c.args.presets.now in
    let v = part a c.args.place (Declares before (Initial ps)) in
    let n = names_of us u v in
    let f = table_of c.args.types.now.numbers in
    let old = c.args.self.now in
    let mid = c.fill_presets.new in
    let new = c.count-passes.new.self in
    let q : Progress = record { fault = c.fault_by-self.result; fills = new.fills; owners = new.owners; values = new.values } in
    let stands = c.names_within-names.ensures n (record { blocks_known = site.blocks; rules = site.procedure.letters; procedures = site.procedure.units; gives = site.procedure.gives }) in
    let outer = c.is_top.ensures ∙ ap (λ h. nat_eq (length h) 0) (sym site.position) in
    let own = subst (λ b. c.own_rules-own.result ≡ first_rule (flat_map (preset_faults u n b) ps)) outer (c.own_rules-own.ensures f n u stands site.homes site.procedure.areas site.procedure.formals) in
    let more = subst (λ k. FillsMore (table_of old.owners) (ends_of old.fills.ends) (flat_map (filled k u n) ps) (table_of mid.owners) (ends_of mid.fills.ends) c.in_ok-meets.meets) (sym site.unit)
    (c.in_ok-meets.ensures f n u stands site.homes site.procedure.areas) in
    let kept = subst (λ o. FillsMore (table_of old.owners) (ends_of old.fills.ends) (flat_map (filled a.unit u n) ps) (table_of o) (ends_of mid.fills.ends) c.in_ok-meets.meets) (sym c.count-passes.ensures.owners) more in
    let fills = subst (λ r. FillsMore (table_of old.owners) (ends_of old.fills.ends) (flat_map (filled a.unit u n) ps) (table_of new.owners) (ends_of r.ends) c.in_ok-meets.meets) (sym c.count-passes.ensures.fills) kept in
    presets_noted us u a c.args.place before ps (ap (slice_get us) site.unit ∙ site.procedure.found) vs c.with_earlier.result c.in_ok-meets.meets c.count-passes.result c.count_presets.result old q
    (sym c.if-is_done.ensures) known fills c.count_presets.ensures c.count-passes.ensures.told c.count-passes.ensures.counted
    (c.with_earlier.ensures (flat_map (preset_faults u n (is_outer a)) ps) own) c.fault_by-self.ensures
