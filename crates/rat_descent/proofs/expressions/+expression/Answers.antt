-- Why the functions of expressions read their nonterminals.
use Rattle.std.proofs.Common.{refl, ap, subst, sym, ◌∙◌, map, ◌++◌, [], ◌∷◌}
use Rattle.f66_tree.specs.Syntax.{Ref, Item, Pair, Truth}
use Rattle.f66_tree.specs.Views.{formula_of, formulas_of}
use Rattle.rat_parse_table.specs.declared.table.Terminal.TheVariants as terminals
use Rattle.rat_parse_table.specs.declared.table.Nonterminal.TheVariants as nonterminals
use Rattle.rat_parse_table.specs.declared.table.Production.TheVariants as productions
use Rattle.rat_parse_values.specs.Values.{formula, formulas, located}
use Rattle.rat_parse_values.specs.Parts.{as_formula, as_exprs, is_true}
use Rattle.rat_descent.specs.Reading.{Reads}
use Rattle.descent.specs.Reading.{done, next}
use Rattle.rat_descent.proofs.Productions.{production, nothing, otherwise, as_value, joins_nothing, joins_more, lengthens_nothing, lengthens_more, viewed_more}
use Rattle.rat_descent.proofs.expressions.+expression.Goals.{term-then-is_at+in_ok-take_token, term-else-is_at+then-is_at-2+in_ok-take_token-2}
use Rattle.rat_descent.proofs.expressions.+expression.Goals as goal

pub expression-returns-then-not-is_at : goal.expression-returns-then-not-is_at
expression-returns-then-not-is_at t c =
    let tail = c.more.invariant (formula_of c.more.e) c.more.reader
    (joins_nothing productions.OrDone refl refl refl (otherwise _ _ _ (sym c.is_at.ensures ∙ c.if-not-is_at.true))) in
    as_value (ap formula tail.is)
    (production productions.Expr refl refl c.open_production.ensures c.close_production.ensures (next c.in_ok-conjunction.ensures (next tail.reads done)))

pub expression-more-preserved : goal.expression-more-preserved
expression-more-preserved t c = λ f s more. c.more.invariant f s
    (joins_more productions.OrMore terminals.Or nonterminals.Conjunction refl (λ q. refl) (λ q. refl) (λ v. refl)
    c.in_ok-take_token.ensures c.in_ok-conjunction-2.ensures c.operator_at-operator.ensures c.in_ok-join.ensures more)

pub negation-returns-then-not-is_at : goal.negation-returns-then-not-is_at
negation-returns-then-not-is_at t c = production productions.Affirmed refl refl refl refl (next c.in_ok-relational.ensures done)

pub negation-returns : goal.negation-returns
negation-returns t c =
    as_value (ap formula (sym c.in_ok-negate.ensures))
    (production productions.Negated refl refl c.open_production.ensures c.close_production.ensures (next c.in_ok-take_token.ensures (next c.in_ok-relational-2.ensures done)))

pub conjunction-returns-then-not-is_at : goal.conjunction-returns-then-not-is_at
conjunction-returns-then-not-is_at t c =
    let tail = c.more.invariant (formula_of c.more.e) c.more.reader
    (joins_nothing productions.AndDone refl refl refl (otherwise _ _ _ (sym c.is_at.ensures ∙ c.if-not-is_at.true))) in
    as_value (ap formula tail.is) (production productions.Conjunction refl refl refl refl (next c.in_ok-negation.ensures (next tail.reads done)))

pub conjunction-more-preserved : goal.conjunction-more-preserved
conjunction-more-preserved t c = λ f s more. c.more.invariant f s
    (joins_more productions.AndMore terminals.And nonterminals.Negation refl (λ q. refl) (λ q. refl) (λ v. refl)
    c.in_ok-take_token.ensures c.in_ok-negation-2.ensures c.operator_at-operator.ensures c.in_ok-join.ensures more)

pub relational-returns-then-not-is_at : goal.relational-returns-then-not-is_at
relational-returns-then-not-is_at t c =
    let tail = joins_nothing productions.NotCompared {f = formula_of c.sum.new.e} refl refl refl (otherwise _ _ _ (sym c.is_at.ensures ∙ c.if-not-is_at.true)) in
    as_value (ap formula tail.is) (production productions.Relational refl refl refl refl (next c.in_ok-sum.ensures (next tail.reads done)))

pub relational-returns : goal.relational-returns
relational-returns t c =
    as_value (ap (λ o. formula (Pair o (formula_of c.sum.new.e) (formula_of c.sum-2.new.e))) (sym c.operator_at-operator.ensures) ∙ ap formula (sym c.in_ok-join.ensures))
    (production productions.Relational refl refl refl refl (next c.in_ok-sum.ensures
    (next (production productions.Compared refl refl refl refl (next c.in_ok-take_token.ensures (next c.in_ok-sum-2.ensures done))) done)))

pub sum-returns-then-not-is_at : goal.sum-returns-then-not-is_at
sum-returns-then-not-is_at t c =
    let tail = c.more.invariant (formula_of c.more.e) c.more.reader
    (joins_nothing productions.SumDone refl refl refl (otherwise _ _ _ (sym c.is_at.ensures ∙ c.if-not-is_at.true))) in
    as_value (ap formula tail.is) (production productions.Sum refl refl refl refl (next c.in_ok-first_term.ensures (next tail.reads done)))

pub sum-more-preserved : goal.sum-more-preserved
sum-more-preserved t c = λ f s more. c.more.invariant f s
    (joins_more productions.SumMore terminals.Adding nonterminals.Term refl (λ q. refl) (λ q. refl) (λ v. refl)
    c.in_ok-take_token.ensures c.in_ok-term.ensures c.operator_at-operator.ensures c.in_ok-join.ensures more)

pub first_term-returns-then-not-is_at : goal.first_term-returns-then-not-is_at
first_term-returns-then-not-is_at t c = production productions.UnsignedTerm refl refl refl refl (next c.in_ok-term.ensures done)

pub first_term-returns : goal.first_term-returns
first_term-returns t c =
    as_value (ap formula (sym c.in_ok-sign.ensures))
    (production productions.SignedTerm refl refl c.open_production.ensures c.close_production.ensures (next c.in_ok-token.ensures (next c.in_ok-term-2.ensures done)))

pub term-returns-else-is_at-2 : goal.term-returns-else-is_at-2
term-returns-else-is_at-2 t c =
    let tail = c.more.invariant (formula_of c.more.e) c.more.reader
    (joins_nothing productions.TermDone refl refl refl
    (otherwise _ _ _ (sym c.is_at.ensures ∙ c.if-is_at.false) ∙ otherwise _ _ _ (sym c.is_at-else-is_at.ensures ∙ c.if-is_at-2.false))) in
    as_value (ap formula tail.is) (production productions.Term refl refl refl refl (next c.in_ok-factor.ensures (next tail.reads done)))

pub term-more-preserved : goal.term-more-preserved
term-more-preserved t c = λ f s more. c.more.invariant f s (elim c.if-is_at.branch [
  | term-then-is_at+in_ok-take_token w ↦
      joins_more productions.TimesMore terminals.Star nonterminals.Factor refl (λ q. refl) (λ q. refl) (λ v. refl) w.in_ok-take_token.ensures
      (subst (λ q. Reads _ q _ _) w.reader-is c.in_ok-factor-2.ensures) (w.operator-is ∙ w.operator_at-operator.ensures) c.in_ok-join.ensures more
  | term-else-is_at+then-is_at-2+in_ok-take_token-2 w ↦
      joins_more productions.OverMore terminals.Slash nonterminals.Factor refl (λ q. refl) (λ q. refl) (λ v. refl) w.in_ok-take_token-2.ensures
      (subst (λ q. Reads _ q _ _) w.reader-is c.in_ok-factor-2.ensures) (w.operator-is ∙ w.operator_at.ensures) c.in_ok-join.ensures more
])

pub factor-returns-then-not-is_at : goal.factor-returns-then-not-is_at
factor-returns-then-not-is_at t c =
    let first = c.in_ok-prime.ensures in
    let tail = joins_nothing productions.NotRaised {f = as_formula first.value} refl refl refl (otherwise _ _ _ (sym c.is_at.ensures ∙ c.if-not-is_at.true)) in
    as_value (ap formula (tail.is ∙ first.is)) (production productions.Factor refl refl refl refl (next first.reads (next tail.reads done)))

pub factor-returns : goal.factor-returns
factor-returns t c =
    let first = c.in_ok-prime.ensures in
    let right = c.in_ok-prime-2.ensures in
    let operator = c.operator_at-operator.result in
    as_value (ap (λ o. formula (Pair o (as_formula first.value) (as_formula right.value))) (sym c.operator_at-operator.ensures)
    ∙ ap (λ f. formula (Pair operator f (as_formula right.value))) first.is ∙ ap (λ g. formula (Pair operator (formula_of c.prime.new.e) g)) right.is ∙ ap formula (sym c.in_ok-join.ensures))
    (production productions.Factor refl refl refl refl (next first.reads
    (next (production productions.Raised refl refl refl refl (next c.in_ok-take_token.ensures (next right.reads done))) done)))

pub prime-returns-in_ok-number_token-in-Octal : goal.prime-returns-in_ok-number_token-in-Octal
prime-returns-in_ok-number_token-in-Octal t c = record {
  value = _;
  reads = production productions.NumberPrime refl refl refl refl (next c.in_ok-number_token-in-Octal.ensures done);
  is = sym c.constant.ensures ∙ ap formula_of (sym c.put.ensures);
}

pub prime-returns-in_ok-take_token-in-Truth : goal.prime-returns-in_ok-take_token-in-Truth
prime-returns-in_ok-take_token-in-Truth t c = record {
  value = _;
  reads = production productions.TruthPrime refl refl refl refl (next c.in_ok-take_token-in-Truth.ensures done);
  is = ap (λ z. Truth (is_true z)) (sym c.sign_of_kind-sign.ensures) ∙ (ap Truth (sym c.is_true.ensures) ∙ ap formula_of (sym c.put-in-Truth.ensures));
}

pub prime-returns-in_ok-read_reference-in_default : goal.prime-returns-in_ok-read_reference-in_default
prime-returns-in_ok-read_reference-in_default t c = record {
  value = _;
  reads = production productions.RefPrime refl refl refl refl (next c.in_ok-read_reference-in_default.ensures done);
  is = refl;
}

pub group-returns : goal.group-returns
group-returns t c = record {
  value = _;
  reads = production productions.GroupPrime refl refl c.open_production.ensures refl (next c.in_ok-take_token.ensures (next c.in_ok-inner.ensures (next c.in_ok-take_token-2.ensures done)));
  is = sym c.in_ok-grouped.ensures ∙ ap formula_of (sym c.put.ensures);
}

pub read_reference-returns-then-not-is_at : goal.read_reference-returns-then-not-is_at
read_reference-returns-then-not-is_at t c =
    as_value (ap (λ x. located c.in_ok-token.token.now.place (Ref x)) (sym c.in_ok-name.ensures) ∙ ap (λ x. located c.in_ok-token.token.now.place (formula_of x)) (sym c.put.ensures))
    (production productions.Ref refl refl c.open_production.ensures c.close_production.ensures (next c.in_ok-token.ensures
    (next (nothing productions.NoArguments refl refl (otherwise _ _ _ (sym c.is_at.ensures ∙ c.if-not-is_at.true))) done)))

pub read_reference-returns : goal.read_reference-returns
read_reference-returns t c =
    as_value (ap (λ x. located c.in_ok-token.token.now.place (Item x (formulas_of c.in_ok-list.list.items))) (sym c.in_ok-name.ensures)
    ∙ (ap (located c.in_ok-token.token.now.place) (sym c.in_ok-applied.ensures) ∙ ap (λ x. located c.in_ok-token.token.now.place (formula_of x)) (sym c.put-2.ensures)))
    (production productions.Ref refl refl c.open_production.ensures c.close_production-2.ensures (next c.in_ok-token.ensures
    (next (production productions.SomeArguments refl refl refl refl (next c.in_ok-list.ensures done)) done)))

pub subscripts-returns-then-not-is_at : goal.subscripts-returns-then-not-is_at
subscripts-returns-then-not-is_at t c =
    let rest = c.more.invariant (map formula_of c.more.list.items) c.more.reader
    (lengthens_nothing productions.NoMoreExpr as_exprs refl refl refl (otherwise _ _ _ (sym c.is_at.ensures ∙ c.if-not-is_at.true))) in
    as_value (ap formulas (sym (ap (λ xs. map formula_of xs ++ as_exprs rest.value) (c.in_ok-push.ensures.items ∙ ap (λ xs. xs ++ c.in_ok-first.first ∷ []) c.new-list.ensures.items)) ∙ rest.is))
    (production productions.Subscripts refl refl refl refl (next c.in_ok-take_token.ensures (next c.in_ok-first.ensures (next rest.reads (next c.in_ok-take_token-2.ensures done)))))

pub subscripts-more-preserved : goal.subscripts-more-preserved
subscripts-more-preserved t c = λ all s more. c.more.invariant all s
    (lengthens_more as_exprs (map formula_of c.more.list.items) {v = more.value}
    (production productions.MoreExpr refl refl refl refl (next c.in_ok-take_token-3.ensures (next c.in_ok-expression.ensures (next more.reads done))))
    refl (viewed_more formula_of c.more.list.items c.in_ok-expression.field-0 c.in_ok-push-2.ensures.items) more.is)
