-- Why `computed` reads its nonterminal.
use Rattle.std.proofs.Common.{refl, ap, sym, ◌∙◌, ◌++◌, [], ◌∷◌}
use Rattle.f66_tree.specs.Syntax.{Computed}
use Rattle.rat_parse_table.specs.declared.table.Production.TheVariants as productions
use Rattle.rat_parse_values.specs.Parts.{as_numbers, number_in}
use Rattle.rat_parse_values.specs.Values.{tok}
use Rattle.descent.specs.Reading.{done, next}
use Rattle.rat_descent.proofs.Productions.{production, otherwise, lengthens_nothing, lengthens_more}
use Rattle.rat_descent.proofs.plain.computed.Goals as goal

pub returns-then-not-is_at : goal.returns-then-not-is_at
returns-then-not-is_at c =
    let number = number_in (tok c.in_ok-number_token.field-0.now) in
    let rest = c.more.invariant c.more.list.items c.more.reader
    (lengthens_nothing productions.NoMoreNumber as_numbers refl refl refl (otherwise _ _ _ (sym c.is_at.ensures ∙ c.if-not-is_at.true))) in
    record {
      value = _;
      reads = production productions.ComputedTarget refl refl refl refl (next c.in_ok-take_token.ensures (next c.in_ok-number_token.ensures (next rest.reads
          (next c.in_ok-take_token-2.ensures (next c.in_ok-take_token-3.ensures (next c.in_ok-name_token.ensures done))))));
      is = ap (λ x. Computed (number ∷ as_numbers rest.value) x) (sym c.in_ok-index.ensures)
          ∙ ap (λ ns. Computed ns c.in_ok-index.index)
          (sym (ap (λ ns. ns ++ as_numbers rest.value) (c.in_ok-push.ensures.items ∙ ap (λ ns. ns ++ c.number_of.result ∷ []) c.new-list.ensures.items ∙ ap (λ n. n ∷ []) c.number_of.ensures)) ∙ rest.is);
    }

pub more-preserved : goal.more-preserved
more-preserved c = λ all s more. c.more.invariant all s
    (lengthens_more as_numbers c.more.list.items {v = more.value}
    (production productions.MoreNumber refl refl refl refl (next c.in_ok-take_token-4.ensures (next c.in_ok-number_token-2.ensures (next more.reads done))))
    (ap (λ n. n ∷ as_numbers more.value) (sym c.number_of-in-more.ensures)) c.in_ok-push-2.ensures.items more.is)
