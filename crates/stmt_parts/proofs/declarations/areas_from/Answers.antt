-- Blank common first, or none.
use Rattle.std.proofs.Common.{◌≡◌, ◌<◌, List, [], Option, map, length, sym, ap, subst, arith, ◌∙◌}
use Rattle.std.specs.Prelude.{IfOk}
use Rattle.f66_tree.specs.declared.declaration.Area as memory
use Rattle.f66_tree.specs.Syntax.{Area}
use Rattle.f66_tree.specs.Views.{area_of as area_view}
use Rattle.stmt_reader.specs.Declarations.{area_of, areas_of}
use Rattle.stmt_reader.specs.Splitting.{is_slash, split}
use Rattle.stmt_parts.specs.Lists.{all_pieces, list_if, onto, with_last}
use Rattle.stmt_parts.proofs.ListLemmas.{onto_start, then_onto}
use Rattle.stmt_parts.proofs.SlashLemmas.{blank_more, blocks_alone}
use Rattle.stmt_parts.proofs.declarations.areas_from.Goals as goal

pub returns-then-is_empty : goal.returns-then-is_empty
returns-then-is_empty c =
    let pieces = split is_slash 0 c.args.behind.now in
    let all = areas_of (all_pieces pieces) in
    let none : length c.args.list.now ≡ 0 = grind arith in
    subst (λ (x : Option (List Area)). IfOk c.add_areas.result (λ r. list_if area_view r ≡ x))
    (ap (λ (b : List memory.Area). onto (map area_view b) all) c.new.ensures.items ∙ onto_start all ∙ blocks_alone c.args.list.now pieces.0 pieces.1 none) c.add_areas.ensures

pub returns-in-Some : goal.returns-in-Some
returns-in-Some c =
    let pieces = split is_slash 0 c.args.behind.now in
    let all = areas_of (all_pieces pieces) in
    let some : 0 < length c.args.list.now = grind arith in
    subst (λ (x : Option (List Area)). IfOk c.add_areas-in-Some.result (λ r. list_if area_view r ≡ x))
    (ap (λ (o : Option (List Area)). then_onto o all) (ap (list_if area_view) (sym c.in-Some.is) ∙ c.in_ok-add_area.ensures ∙ ap (λ (b : List memory.Area). with_last (map area_view b) (area_of [] c.args.list.now)) c.new-2.ensures.items)
    ∙ blank_more c.args.list.now pieces.0 pieces.1 some) c.add_areas-in-Some.ensures
