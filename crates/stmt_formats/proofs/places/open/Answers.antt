-- Parentheses with their count.
use Rattle.std.proofs.Common.{List, [], None, map, ap, sym, ◌∙◌}
use Rattle.stmt_reader.specs.Formats as f
use Rattle.stmt_formats.specs.declared.items.Item.{Item}
use Rattle.stmt_formats.specs.declared.places.Around.{Around}
use Rattle.stmt_formats.specs.States.{arounds_onto, item_of}
use Rattle.stmt_formats.proofs.PlaceLemmas.{around_last, take_open}
use Rattle.stmt_formats.proofs.places.open.Goals as goal

pub returns : goal.returns
returns c =
    ap (λ (all : List Item). f.At (arounds_onto c.push.new.self.items []) (map item_of all) None) c.new.ensures.items
    ∙ ap (λ (a : List f.Around). f.At a [] None) (ap (λ (all : List Around). arounds_onto all []) c.in_ok-push.ensures.items ∙ around_last c.args.place.around.items (record { count = c.args.place.count; before = c.args.place.before }) [])
    ∙ sym (take_open (arounds_onto c.args.place.around.items []) (map item_of c.args.place.before.items) c.args.place.count)
