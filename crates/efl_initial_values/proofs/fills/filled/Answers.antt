-- The place lies in its variable, so it is counted as it is.
use Rattle.std.proofs.Common.{min, sum_by, sym, ap, ◌∙◌}
use Rattle.efl_tree.specs.Views.{preset_of}
use Rattle.efl_scope.specs.Scopes.{meaning}
use Rattle.efl_types.specs.Signatures.{variable_type}
use Rattle.efl_types.specs.Presets.{first_name, owner_by, offset, many_values}
use Rattle.efl_scoped.specs.Told.{capped}
use Rattle.efl_initial_values.proofs.PresetLemmas.{small_exact, small_few}
use Rattle.efl_initial_values.proofs.RoomLemmas.{large_none, filled_none, filled_some}
use Rattle.efl_initial_values.proofs.fills.filled.Goals as goal

pub returns-then-is_large : goal.returns-then-is_large
returns-then-is_large c = λ f k u n made.
    let p = preset_of c.args.preset.now in
    let x = first_name p.place in
    let t = variable_type n x in
    (large_none (owner_by k u x (meaning n.blocks x)) t (many_values p) (offset t p.place) (sym (c.if-is_large.ensures f t made.told)), tt)

pub returns-in-None : goal.returns-in-None
returns-in-None c = λ f k u n made.
    let p = preset_of c.args.preset.now in
    let x = first_name p.place in
    let t = variable_type n x in
    (filled_none (owner_by k u x (meaning n.blocks x)) t (many_values p) (offset t p.place) (sym (c.if-is_large.ensures f t made.told)) (sym c.in-None.is ∙ c.offset.ensures f t made), tt)

pub returns-in-Some : goal.returns-in-Some
returns-in-Some c = λ f k u n made.
    let p = preset_of c.args.preset.now in
    let x = first_name p.place in
    let t = variable_type n x in
    let s = c.args.variable.now.summary in
    let small = sym (c.if-is_large.ensures f t made.told) in
    let values = c.count_values.ensures ∙ ap (λ cs. capped (sum_by (λ v. v.0) cs)) c.deref.ensures.value in
    filled_some (owner_by k u x (meaning n.blocks x)) t p.place (many_values p) c.in-Some.offset s.places c.count_values.result c.min.result small
    (small_exact f t s made.told small) (small_few f t s made.told small) values (sym c.in-Some.is ∙ c.offset.ensures f t made) (c.min.ensures ∙ ap (min c.count_values.result) c.saturating_sub.ensures)
