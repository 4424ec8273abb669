-- The table has the new place, where the text then stands.
use Rattle.std.proofs.Common.{◌≡◌, ◌==◌, ◌++◌, ◌∷◌, [], false, rules, ◌∙◌, ap, subst, length, Some}
use Rattle.std.specs.Prelude.{nat_eq}
use Rattle.std.specs.List.{list_any}
use Rattle.std.specs.HashMap.{Updates}
use Rattle.macro_define.specs.declared.uses.Use.{Use}
use Rattle.macro_define.specs.Placed.{IsPlaced}
use Rattle.macro_define.proofs.PlacedLemmas.{placed-noted, placed-pushed}
use Rattle.macro_define.proofs.uses.Uses.push.Goals as goal

pub invariant_of-self-in_err-push : goal.invariant_of-self-in_err-push
invariant_of-self-in_err-push c =
    let us = c.self.inside.stack.items in
    let new : list_any (λ (u : Use). u.number == c.args.text.number) us ≡ false = ap (list_any (λ (u : Use). u.number == c.args.text.number)) c.self.view_is ∙ c.requires in
    let same : us ≡ c.push.new.self.items = search rules in
    let kept = placed-noted us c.self.inside.places c.self.invariant c.insert.new.self c.args.text.number (Some c.len.result) new c.in_ok-insert.ensures.updates in
    subst (λ vs. IsPlaced vs c.insert.new.self) same kept

pub invariant_of-self-2 : goal.invariant_of-self-2
invariant_of-self-2 c =
    let us = c.self.inside.stack.items in
    let new : list_any (λ (u : Use). u.number == c.args.text.number) us ≡ false = ap (list_any (λ (u : Use). u.number == c.args.text.number)) c.self.view_is ∙ c.requires in
    let count : c.len.result ≡ length us = search rules in
    let updates = subst (λ k. Updates nat_eq c.self.inside.places c.insert.new.self c.args.text.number (Some k)) count c.in_ok-insert.ensures.updates in
    let pushed : us ++ c.args.text ∷ [] ≡ c.push.new.self.items = search rules in
    subst (λ vs. IsPlaced vs c.insert.new.self) pushed (placed-pushed us c.self.inside.places c.self.invariant c.insert.new.self c.args.text new updates)
