-- Why `actuals` reads its nonterminal.
use Rattle.std.proofs.Common.{refl, ap, sym, ◌∙◌, map, ◌++◌, [], ◌∷◌}
use Rattle.f66_tree.specs.Views.{formula_of}
use Rattle.rat_parse_table.specs.declared.table.Production.TheVariants as productions
use Rattle.rat_parse_values.specs.Parts.{as_exprs}
use Rattle.descent.specs.Reading.{done, next}
use Rattle.rat_descent.proofs.Productions.{production, nothing, otherwise, lengthens_nothing, lengthens_more, viewed_more}
use Rattle.rat_descent.proofs.plain.actuals.Goals as goal

pub returns-then-not-is_at : goal.returns-then-not-is_at
returns-then-not-is_at c = record {
  value = _;
  reads = nothing productions.NoActuals refl refl (otherwise _ _ _ (sym c.is_at.ensures ∙ c.if-not-is_at.true));
  is = sym (ap (map formula_of) c.new-list.ensures.items);
}

pub returns-then-not-is_at-2 : goal.returns-then-not-is_at-2
returns-then-not-is_at-2 c =
    let first = c.in_ok-actual.ensures in
    let rest = c.more.invariant (map formula_of c.more.list.items) c.more.reader
    (lengthens_nothing productions.NoMoreActual as_exprs refl refl refl (otherwise _ _ _ (sym c.is_at-in-more.ensures ∙ c.if-not-is_at-2.true))) in
    record {
      value = _;
      reads = production productions.SomeActuals refl refl refl refl (next c.in_ok-take_token.ensures (next first.reads (next rest.reads (next c.in_ok-take_token-2.ensures done))));
      is = ap (λ f. f ∷ as_exprs rest.value) first.is
          ∙ (sym (ap (λ xs. map formula_of xs ++ as_exprs rest.value) (c.in_ok-push.ensures.items ∙ ap (λ xs. xs ++ c.in_ok-actual.field-0 ∷ []) c.new-list.ensures.items)) ∙ rest.is);
    }

pub more-preserved : goal.more-preserved
more-preserved c = λ all s more.
    let item = c.in_ok-actual-2.ensures in
    c.more.invariant all s
    (lengthens_more as_exprs (map formula_of c.more.list.items) {v = more.value}
    (production productions.MoreActual refl refl refl refl (next c.in_ok-take_token-3.ensures (next item.reads (next more.reads done))))
    (ap (λ f. f ∷ as_exprs more.value) item.is) (viewed_more formula_of c.more.list.items c.in_ok-actual-2.field-0 c.in_ok-push-2.ensures.items) more.is)
