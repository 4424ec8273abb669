-- The blocks before, and those between slashes.
use Rattle.std.proofs.Common.{◌≡◌, ◌+◌, ◌-◌, length, List, Option, ◌∷◌, map, take, drop, sym, ap, subst, ◌∙◌}
use Rattle.std.specs.Prelude.{IfOk}
use Rattle.f66_tree.specs.Syntax.{Area}
use Rattle.f66_tree.specs.Views.{area_of as area_view}
use Rattle.stmt_reader.specs.Declarations.{area_of, areas_of}
use Rattle.stmt_reader.specs.Splitting.{Pieces, is_slash, split}
use Rattle.stmt_parts.specs.Lists.{all_pieces, list_if, onto}
use Rattle.stmt_parts.proofs.ListLemmas.{onto_last, onto_more, then_onto}
use Rattle.stmt_parts.proofs.SlashLemmas.{first_from, one_piece}
use Rattle.stmt_parts.proofs.declarations.+areas.Goals as goal

pub add_areas-returns-in-None : goal.add_areas-returns-in-None
add_areas-returns-in-None t c = ap (λ (q : Pieces). onto (map area_view c.args.before.items) (areas_of (all_pieces q))) (sym (one_piece c.args.tokens.now c.in-None.ensures.halves))

pub add_areas-returns-in-Some : goal.add_areas-returns-in-Some
add_areas-returns-in-Some t c =
    let tokens = c.args.tokens.now in
    let at = c.in-Some.at in
    subst (λ (x : Option (List Area)). IfOk c.add_named.result (λ r. list_if area_view r ≡ x))
    (ap (λ (q : Pieces). onto (map area_view c.args.before.items) (areas_of (all_pieces q))) (sym (first_from tokens at c.in-Some.ensures.halves))) c.add_named.ensures

pub add_named-returns-in-None : goal.add_named-returns-in-None
add_named-returns-in-None t c =
    let name = c.args.name.now in
    let tokens = c.args.tokens.now in
    let before = map area_view c.args.before.items in
    subst (λ (x : Option (List Area)). IfOk c.add_area.result (λ r. list_if area_view r ≡ x))
    (onto_last before (area_of name tokens) ∙ ap (λ (q : Pieces). onto before (areas_of (name ∷ all_pieces q))) (sym (one_piece tokens c.in-None.ensures.halves))) c.add_area.ensures

pub add_named-returns-in-None-2 : goal.add_named-returns-in-None-2
add_named-returns-in-None-2 t c =
    let name = c.args.name.now in
    let tokens = c.args.tokens.now in
    let before = map area_view c.args.before.items in
    let at = c.in-Some.at in
    let rest = areas_of (all_pieces (split is_slash 0 (take (length tokens - (at + 1)) (drop (at + 1) tokens)))) in
    ap (λ (o : Option (List Area)). then_onto o rest) (ap (list_if area_view) (sym c.in-None-2.is) ∙ c.in_ok-add_area-in-Some.ensures)
    ∙ onto_more before (area_of name (take at tokens)) rest
    ∙ ap (λ (q : Pieces). onto before (areas_of (name ∷ all_pieces q))) (sym (first_from tokens at c.in-Some.ensures.halves))

pub add_named-returns-in-Some-2 : goal.add_named-returns-in-Some-2
add_named-returns-in-Some-2 t c =
    let name = c.args.name.now in
    let tokens = c.args.tokens.now in
    let before = map area_view c.args.before.items in
    let at = c.in-Some.at in
    let rest = areas_of (all_pieces (split is_slash 0 (take (length tokens - (at + 1)) (drop (at + 1) tokens)))) in
    subst (λ (x : Option (List Area)). IfOk c.add_areas.result (λ r. list_if area_view r ≡ x))
    (ap (λ (o : Option (List Area)). then_onto o rest) (ap (list_if area_view) (sym c.in-Some-2.is) ∙ c.in_ok-add_area-in-Some.ensures)
    ∙ onto_more before (area_of name (take at tokens)) rest
    ∙ ap (λ (q : Pieces). onto before (areas_of (name ∷ all_pieces q))) (sym (first_from tokens at c.in-Some.ensures.halves)))
    c.add_areas.ensures
