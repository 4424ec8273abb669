-- A list that has members.
use Rattle.std.proofs.Common.{◌≡◌, ◌∷◌, length, false, sym, ◌∙◌}
use Rattle.std.specs.Prelude.{nat_eq}
use Rattle.stmt_text.specs.Texts.{commas, in_parentheses, name_text}
use Rattle.stmt_text.proofs.ListLemmas.{in_parentheses_some, emits_same}
use Rattle.stmt_text.proofs.headers.push_dummies.Goals as goal

pub returns : goal.returns
returns c =
    let some : nat_eq (length c.args.list.now) 0 ≡ false = sym c.is_empty.ensures ∙ c.if-is_empty.false in
    emits_same c.push_enclosed_names.result c.args.out.now.items c.push_enclosed_names.new.out.items (λ k. 40 ∷ commas name_text c.args.list.now (41 ∷ k)) (in_parentheses name_text c.args.list.now)
    (λ k. sym (in_parentheses_some name_text c.args.list.now k some)) c.push_enclosed_names.ensures
