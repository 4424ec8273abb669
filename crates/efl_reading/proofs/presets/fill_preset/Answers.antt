-- Its range, if it has one, by the number of its owner.
use Rattle.std.proofs.Common.{◌≡◌, Bool, false, ◌∷◌, refl, sym, ap, subst, ◌∙◌}
use Rattle.std.specs.List.{list_any}
use Rattle.efl_tree.specs.Syntax.{EflProcedure}
use Rattle.efl_tree.specs.Views.{preset_of}
use Rattle.efl_scope.specs.Scopes.{meaning}
use Rattle.efl_types.specs.Signatures.{Names, variable_type}
use Rattle.efl_types.specs.Presets.{Filled, meet, first_name, owner_by, filled}
use Rattle.efl_scoped.specs.Numbers.{Table}
use Rattle.efl_scoped.specs.Seen.{table_of}
use Rattle.efl_scoped.proofs.WordLemmas.{grows_same}
use Rattle.efl_expressions.specs.TypeViews.{IsType}
use Rattle.efl_names.specs.NameViews.{Stands}
use Rattle.efl_blocks.specs.HomeViews.{AreHomes}
use Rattle.efl_initial_values.specs.Fills.{ends_of, Notes, IsShort, range_of}
use Rattle.efl_initial_values.specs.Owners.{owner_code, AreAreas, Codes}
use Rattle.efl_initial_values.proofs.OwnerLemmas.{owner_codes}
use Rattle.efl_reading.specs.Reading.{FillsMore}
use Rattle.efl_reading.proofs.PresetLemmas.{none_filled, one_filled, IsAsked, answered, short_low}
use Rattle.efl_reading.proofs.presets.fill_preset.Goals as goal

pub returns-in-None : goal.returns-in-None
returns-in-None c = λ f n u stands homes areas.
    let x = first_name (preset_of c.args.preset.now).place in
    let unit = c.args.site.now.procedure.now.unit in
    let numbers = table_of c.args.owners.now in
    let ends = ends_of c.args.fills.now.ends in
    let ss = c.args.names.now.structures.now.list.items in
    let known = c.filled.ensures f unit u n (subst (λ y. IsType f ss (variable_type n y) c.variable_type-variable.result) c.as_bytes-name.ensures (c.variable_type-variable.ensures f n stands)) in
    subst (λ gs. FillsMore numbers ends gs numbers ends false) (sym (known.0 ∙ ap (range_of (owner_by unit u x (meaning n.blocks x))) c.in-None.is)) (none_filled numbers ends)

pub returns-in_ok-owner-in-Some : goal.returns-in_ok-owner-in-Some
returns-in_ok-owner-in-Some c =
    let p = preset_of c.args.preset.now in
    let x = first_name p.place in
    let unit = c.args.site.now.procedure.now.unit in
    let before = table_of c.args.owners.now in
    let pairs = c.number_owner.new.numbers in
    let after = table_of pairs in
    let ends = ends_of c.args.fills.now.ends in
    let later = ends_of c.fill.new.self.ends in
    let ss = c.args.names.now.structures.now.list.items in
    let range = c.in-Some.range in
    let owner = c.in_ok-owner-in-Some.owner in
    let Answers : IsAsked (owner_code after) ends owner range.first range.many → Bool → Type 0 = λ a met.
    (met ≡ list_any (meet a.range) a.others) × (met ≡ false → Notes (owner_code after) later (a.range ∷ a.others)) in
    answered Answers
    (λ met. (f : Table) (n : Names) (u : EflProcedure) → Stands f n c.args.names.now → AreHomes u n.blocks c.args.site.now.homes.now → AreAreas u c.args.site.now.procedure.now.areas.now →
    FillsMore before ends (filled unit u n p) after later met) c.fill.result
    (λ a. c.fill.ensures (owner_code after) a.range a.others (owner_codes after pairs.distinct pairs.above) a.is a.begins a.counts a.low a.notes)
    (λ met more f n u stands homes areas.
    let known = c.filled.ensures f unit u n (subst (λ y. IsType f ss (variable_type n y) c.variable_type-variable.result) c.as_bytes-name.ensures (c.variable_type-variable.ensures f n stands)) in
    let o = owner_by unit u x (meaning n.blocks x) in
    let one : Filled = record { owner = o; first = range.first; many = range.many } in
    let codes = subst (λ y. Codes before (owner_by unit u y (meaning n.blocks y)) after owner) c.as_bytes-name.ensures (c.in_ok-owner-in-Some.ensures u n.blocks homes areas) in
    subst (λ gs. FillsMore before ends gs after later met) (sym (known.0 ∙ ap (range_of o) c.in-Some.is))
    (one_filled before after ends later one met codes.grows
    (λ fs notes. more (record { range = one; others = fs; is = codes.codes after (grows_same after); begins = refl; counts = refl; low = short_low range.first range.many (subst IsShort c.in-Some.is known.1); notes = notes }))))
