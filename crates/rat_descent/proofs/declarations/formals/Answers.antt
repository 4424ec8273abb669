-- Why `formals` reads its nonterminal.
use Rattle.std.proofs.Common.{refl, sym, ap, ◌∙◌, ◌∷◌}
use Rattle.rat_parse_table.specs.declared.table.Production.TheVariants as productions
use Rattle.rat_parse_values.specs.Values.{names}
use Rattle.rat_parse_values.specs.Parts.{as_names}
use Rattle.descent.specs.Reading.{done, next}
use Rattle.rat_descent.proofs.Productions.{production, otherwise, as_value, lengthens_nothing, lengthens_more}
use Rattle.rat_descent.proofs.ListItems.{behind_own}
use Rattle.rat_descent.proofs.declarations.formals.Goals as goal

pub returns-then-not-is_at : goal.returns-then-not-is_at
returns-then-not-is_at c =
    let rest = c.more.invariant c.more.list.items c.more.reader
    (lengthens_nothing productions.NoMoreFormal as_names refl refl refl (otherwise _ _ _ (sym c.is_at.ensures ∙ c.if-not-is_at.true))) in
    as_value (ap (λ x. names (x ∷ as_names rest.value)) (sym c.in_ok-name_of.ensures) ∙ ap names (behind_own c.in_ok-name_of.field-0 c.new-list.ensures.items c.in_ok-push.ensures.items rest.is))
    (production productions.FormalList refl refl refl refl (next c.in_ok-take_token.ensures (next c.in_ok-name_token.ensures (next rest.reads (next c.in_ok-take_token-2.ensures done)))))

pub more-preserved : goal.more-preserved
more-preserved c = λ all s more. c.more.invariant all s
    (lengthens_more as_names c.more.list.items {v = more.value}
    (production productions.MoreFormal refl refl refl refl (next c.in_ok-take_token-3.ensures (next c.in_ok-name_token-2.ensures (next more.reads done))))
    (ap (λ x. x ∷ as_names more.value) (sym c.in_ok-name_of-2.ensures)) c.in_ok-push-2.ensures.items more.is)
