-- A statement is told, or left out, as it should be.
use Rattle.std.proofs.Common.{◌≡◌, ◌||◌, inl, inr, ℕ, true, false, true≢false, List, [], ◌∷◌, ◌++◌, map, ap, sym, subst, ◌∙◌}
use Rattle.std.specs.List.{list_all, list_any}
use Rattle.std.proofs.lemmas.List.Folds.{list_all-map}
use Rattle.f66_tree.specs.Syntax.{Line}
use Rattle.f66_tree.specs.Units.{is_note}
use Rattle.f66_tree.specs.Views.{act_of, lines_of}
use Rattle.f66_program.specs.Mentions.{mentions_in}
use Rattle.f66_names.specs.ActViews.{act_said}
use Rattle.f66_names.specs.Uses.{uses_in}
use Rattle.f66_names.specs.UseViews.{use_of}
use Rattle.f66_mentions.specs.UnitViews.{context_in}
use Rattle.rat_check.specs.PartViews.{part_of}
use Rattle.spared_units.specs.Spared.{mentions_of_lines}
use Rattle.spared_units.proofs.Among.{Among, among}
use Rattle.rat_said.specs.Brief.{IsTelling, holds_if_any, is_name, is_told_by_uses, variable_used}
use Rattle.rat_said.specs.Said.{said_line}
use Rattle.rat_said.specs.Seen.{has}
use Rattle.rat_said.proofs.Telling.{left_out, told_too, where_ok}
use Rattle.rat_said.proofs.Voices.{all_seen, any_mapped, either, same_variables, used_mentioned}
use Rattle.rat_said.proofs.brief.tell.Goals as goal

pub returns-then-is_declaration : goal.returns-then-is_declaration
returns-then-is_declaration c = λ said t.
    let context = context_in c.args.names.now in
    let line = said_line (part_of c.args.part.now) (act_said c.args.saying.now) in
    left_out context said (lines_of c.args.teller.now.told.items) (has c.args.teller.now.seen) t line (λ m e i. absurd (true≢false (sym c.if-is_declaration.true ∙ c.is_declaration.ensures ∙ e)))

pub returns-then-not-is_told_by_uses : goal.returns-then-not-is_told_by_uses
returns-then-not-is_told_by_uses c =
    let context = context_in c.args.names.now in
    let part = part_of c.args.part.now in
    let act = act_said c.args.saying.now in
    let told = lines_of c.args.teller.now.told.items in
    let seen = has c.args.teller.now.seen in
    let later = lines_of c.add.new.statements.items in
    let plain : is_note act ≡ false = sym c.is_declaration.ensures ∙ c.if-is_declaration.false in
    where_ok c.add.result (later ≡ told ++ said_line part (act_of c.in_ok-kind_said.field-0) ∷ []) ((said : List Line) → IsTelling context said told seen → IsTelling context (said ++ said_line part act ∷ []) later seen)
    (λ e said t. subst (λ ls. IsTelling context (said ++ said_line part act ∷ []) ls seen) (sym (e ∙ ap (λ a. told ++ said_line part a ∷ []) c.in_ok-kind_said.ensures))
    (told_too context said told seen t (said_line part act) seen plain (λ x h. inl h)))
    c.add.ensures

pub returns-then-are_seen : goal.returns-then-are_seen
returns-then-are_seen c = λ said t.
    let context = context_in c.args.names.now in
    let act = act_said c.args.saying.now in
    let told = lines_of c.args.teller.now.told.items in
    let seen = has c.args.teller.now.seen in
    let by_uses : is_told_by_uses act ≡ true = sym c.is_told_by_uses.ensures ∙ c.if-not-is_told_by_uses.false in
    let used : map use_of c.deref.result.now ≡ uses_in act = ap (map use_of) c.deref.ensures.value ∙ c.in_ok-collect_in_saying.ensures ∙ ap (λ us. map use_of us ++ uses_in act) c.clear.ensures.items in
    let all : list_all (λ u. holds_if_any seen (variable_used context u)) (uses_in act) ≡ true =
    ap (list_all (λ u. holds_if_any seen (variable_used context u))) (sym used) ∙ list_all-map (λ u. holds_if_any seen (variable_used context u)) use_of c.deref.result.now
    ∙ sym c.are_seen.ensures ∙ c.if-are_seen.true in
    left_out context said told seen t (said_line (part_of c.args.part.now) act) (λ m e i.
    let k = all_seen context seen (mentions_in context act) (uses_in act) (same_variables context act by_uses) all m i in
    subst (Among (mentions_of_lines context told)) (sym k.1) (among (mentions_of_lines context told) _ (t.seen_there k.0 k.2)))

pub returns : goal.returns
returns c =
    let context = context_in c.args.names.now in
    let part = part_of c.args.part.now in
    let act = act_said c.args.saying.now in
    let told = lines_of c.args.teller.now.told.items in
    let seen = has c.args.teller.now.seen in
    let later = lines_of c.add-2.new.statements.items in
    let all = has c.see_all.new.seen in
    let plain : is_note act ≡ false = sym c.is_declaration.ensures ∙ c.if-is_declaration.false in
    let by_uses : is_told_by_uses act ≡ true = sym c.is_told_by_uses.ensures ∙ c.if-not-is_told_by_uses.false in
    let used : map use_of c.deref-2.result.now ≡ uses_in act = ap (map use_of) c.deref-2.ensures.value ∙ c.in_ok-collect_in_saying.ensures ∙ ap (λ us. map use_of us ++ uses_in act) c.clear.ensures.items in
    let lines : later ≡ told ++ said_line part act ∷ [] = c.in_ok-add.ensures ∙ ap (λ a. told ++ said_line part a ∷ []) c.in_ok-kind_said-2.ensures in
    where_ok c.see_all.result ((q : List ℕ) → all q ≡ (seen q || list_any (λ u. is_name (variable_used context (use_of u)) q) c.deref-2.result.now))
    ((said : List Line) → IsTelling context said told seen → IsTelling context (said ++ said_line part act ∷ []) later all)
    (λ grown said t. subst (λ ls. IsTelling context (said ++ said_line part act ∷ []) ls all) (sym lines)
    (told_too context said told seen t (said_line part act) all plain (λ x h. elim (either (seen x) _ (sym (grown x) ∙ h)) [
      | inl old ↦ inl old
      | inr here ↦
          inr (used_mentioned context (mentions_in context act) (uses_in act) x (same_variables context act by_uses)
          (ap (list_any (λ u. is_name (variable_used context u) x)) (sym used) ∙ any_mapped (λ u. is_name (variable_used context u) x) use_of c.deref-2.result.now ∙ here))
    ])))
    c.see_all.ensures
