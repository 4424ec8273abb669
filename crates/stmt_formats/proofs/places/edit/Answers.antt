-- A word with its count.
use Rattle.std.proofs.Common.{List, [], ◌∷◌, ◌++◌, None, map, ap, sym, ◌∙◌}
use Rattle.std.proofs.lemmas.List.{map-append}
use Rattle.stmt_reader.specs.Formats as f
use Rattle.stmt_formats.specs.States.{arounds_onto, item_of}
use Rattle.stmt_formats.proofs.PlaceLemmas.{take_word}
use Rattle.stmt_formats.proofs.places.edit.Goals as goal

pub returns : goal.returns
returns c =
    let around = arounds_onto c.args.place.around.items [] in
    let before = map item_of c.args.place.before.items in
    ap (λ (all : List f.Item). f.At around all None)
    (ap (map item_of) c.in_ok-before.ensures ∙ map-append item_of c.args.place.before.items (c.in_ok-item.item ∷ []) ∙ ap (λ (i : f.Item). before ++ i ∷ []) c.in_ok-item.ensures)
    ∙ sym (take_word around before c.args.place.count c.args.text.now)
