-- Places and values between slashes.
use Rattle.std.proofs.Common.{rules, ◌≡◌, ◌-◌, length, List, Option, map, take, drop, sym, ap, subst, ◌∙◌}
use Rattle.std.specs.Prelude.{IfOk}
use Rattle.f66_tree.specs.Syntax.{PresetPart}
use Rattle.f66_tree.specs.Views.{preset_of as preset_view}
use Rattle.stmt_reader.specs.Declarations.{presets_in}
use Rattle.stmt_reader.specs.Splitting.{Pieces, is_slash, split}
use Rattle.stmt_parts.specs.Lists.{all_pieces, list_if, onto, presets_by}
use Rattle.stmt_parts.proofs.ListLemmas.{then_onto}
use Rattle.stmt_parts.proofs.SlashLemmas.{data_more, first_from, one_piece}
use Rattle.stmt_parts.proofs.equivalences.+presets.Goals as goal

pub add_presets-returns-in-None : goal.add_presets-returns-in-None
add_presets-returns-in-None t c = ap (λ (q : Pieces). onto (map preset_view c.args.before.items) (presets_by q)) (sym (one_piece c.args.tokens.now c.in-None.ensures.halves))

pub add_presets-returns-in-Some : goal.add_presets-returns-in-Some
add_presets-returns-in-Some t c =
    let tokens = c.args.tokens.now in
    let at = c.in-Some.at in
    subst (λ (x : Option (List PresetPart)). IfOk c.add_values.result (λ r. list_if preset_view r ≡ x))
    (ap (λ (q : Pieces). onto (map preset_view c.args.before.items) (presets_by q)) (sym (first_from tokens at c.in-Some.ensures.halves))) c.add_values.ensures

pub add_values-returns-in-None : goal.add_values-returns-in-None
add_values-returns-in-None t c = ap (λ (q : Pieces). onto (map preset_view c.args.before.items) (presets_in c.args.places.now (all_pieces q))) (sym (one_piece c.args.tokens.now c.in-None.ensures.halves))

pub add_values-returns-in-Some : goal.add_values-returns-in-Some
add_values-returns-in-Some t c =
    let tokens = c.args.tokens.now in
    let at = c.in-Some.at in
    subst (λ (x : Option (List PresetPart)). IfOk c.add_parts.result (λ r. list_if preset_view r ≡ x))
    (ap (λ (q : Pieces). onto (map preset_view c.args.before.items) (presets_in c.args.places.now (all_pieces q))) (sym (first_from tokens at c.in-Some.ensures.halves))) c.add_parts.ensures

pub add_parts-returns-in-Some : goal.add_parts-returns-in-Some
add_parts-returns-in-Some t c =
    let before = map preset_view c.args.before.items in
    let behind = c.args.behind.now in
    let rest = presets_by (split is_slash 0 (take (length behind - 1) (drop 1 behind))) in
    subst (λ (x : Option (List PresetPart)). IfOk c.add_presets.result (λ r. list_if preset_view r ≡ x))
    (ap (λ (o : Option (List PresetPart)). then_onto o rest) (ap (list_if preset_view) (sym c.in-Some.is) ∙ c.in_ok-add_preset-in-len1-up.ensures)
    ∙ data_more before c.args.places.now c.args.values.now behind c.token-item.result c.token-item.is c.in-len1-up.len_at_least (search rules)) c.add_presets.ensures

pub add_parts-returns-in-None : goal.add_parts-returns-in-None
add_parts-returns-in-None t c =
    let before = map preset_view c.args.before.items in
    let behind = c.args.behind.now in
    let rest = presets_by (split is_slash 0 (take (length behind - 1) (drop 1 behind))) in
    ap (λ (o : Option (List PresetPart)). then_onto o rest) (ap (list_if preset_view) (sym c.in-None.is) ∙ c.in_ok-add_preset-in-len1-up.ensures)
    ∙ data_more before c.args.places.now c.args.values.now behind c.token-item.result c.token-item.is c.in-len1-up.len_at_least (search rules)
