-- With the block inside those around it.
use Rattle.std.proofs.Common.{map, refl}
use Rattle.std.proofs.lemmas.Result.{on_ok_weaker}
use Rattle.efl_tree.specs.Views.{preset_of}
use Rattle.efl_declarations.proofs.CheckLemmas.{entered, inside_noted}
use Rattle.efl_declarations.proofs.declarations.tell_presets.Goals as goal

pub returns : goal.returns
returns c =
    let s = c.args.site.now in
    let known = c.args.known.now in
    let inner = c.site_among-inner.result in
    on_ok_weaker c.note_presets.result
    (inside_noted c.args.types.now known s inner c.args.place (map preset_of c.args.presets.now) c.args.progress.now c.note_presets.new.self
    (entered s inner known _ _ c.site_among-inner.ensures (λ x. refl) (λ x. refl)))
    c.note_presets.ensures
