-- The innermost parentheses end.
use Rattle.std.proofs.Common.{List, [], ◌∷◌, ◌++◌, None, map, ap, sym, ◌∙◌}
use Rattle.std.proofs.lemmas.List.{map-append}
use Rattle.stmt_reader.specs.Formats as f
use Rattle.stmt_formats.specs.declared.items.Item.TheVariants as i
use Rattle.stmt_formats.specs.States.{arounds_onto, item_of}
use Rattle.stmt_formats.proofs.ItemLemmas.{nest_item}
use Rattle.stmt_formats.proofs.PlaceLemmas.{around_popped}
use Rattle.stmt_formats.proofs.places.close_around.Goals as goal

pub returns-in_ok-before-in-Some : goal.returns-in_ok-before-in-Some
returns-in_ok-before-in-Some c =
    let outer = c.in-Some.outer in
    let nest = i.Nest outer.count c.args.inside in
    ap (λ (all : List f.Item). f.At (arounds_onto c.pop.new.self.items []) all None)
    (ap (map item_of) c.in_ok-before-in-Some.ensures ∙ map-append item_of outer.before.items (nest ∷ []) ∙ ap (λ (x : f.Item). map item_of outer.before.items ++ x ∷ []) (nest_item outer.count c.args.inside))
    ∙ ap (λ (a : List f.Around). f.close a (map item_of c.args.inside.items)) (sym (around_popped c.args.around.items c.pop.new.self.items outer c.in-Some.ensures.items))
