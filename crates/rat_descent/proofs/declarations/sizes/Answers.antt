-- Why `sizes` gives its nonterminal.
use Rattle.std.proofs.Common.{refl, sym, ap, ◌∙◌, map}
use Rattle.f66_tree.specs.Views.{par_of}
use Rattle.rat_parse_table.specs.declared.table.Production.TheVariants as productions
use Rattle.rat_parse_values.specs.Parts.{as_pars}
use Rattle.descent.specs.Reading.{done, next}
use Rattle.rat_descent.proofs.Productions.{production, nothing, otherwise, lengthens_nothing, lengthens_more, viewed_more}
use Rattle.rat_descent.proofs.ListItems.{behind_first}
use Rattle.rat_descent.proofs.declarations.sizes.Goals as goal

pub returns-then-not-is_at : goal.returns-then-not-is_at
returns-then-not-is_at c = record {
  value = _;
  reads = nothing productions.NoSizes refl refl (otherwise _ _ _ (sym c.is_at.ensures ∙ c.if-not-is_at.true));
  is = sym (ap (map par_of) c.new-list.ensures.items);
}

pub returns-then-not-is_at-2 : goal.returns-then-not-is_at-2
returns-then-not-is_at-2 c =
    let rest = c.more.invariant (map par_of c.more.list.items) c.more.reader
    (lengthens_nothing productions.NoMorePar as_pars refl refl refl (otherwise _ _ _ (sym c.is_at-in-more.ensures ∙ c.if-not-is_at-2.true))) in
    record {
      value = _;
      reads = production productions.SomeSizes refl refl refl refl (next c.in_ok-take_token.ensures (next c.in_ok-parameter.ensures (next rest.reads (next c.in_ok-take_token-2.ensures done))));
      is = behind_first par_of c.in_ok-parameter.field-0 c.new-list.ensures.items c.in_ok-push.ensures.items rest.is;
    }

pub more-preserved : goal.more-preserved
more-preserved c = λ all s more. c.more.invariant all s
    (lengthens_more as_pars (map par_of c.more.list.items) {v = more.value}
    (production productions.MorePar refl refl refl refl (next c.in_ok-take_token-3.ensures (next c.in_ok-parameter-2.ensures (next more.reads done))))
    refl (viewed_more par_of c.more.list.items c.in_ok-parameter-2.field-0 c.in_ok-push-2.ensures.items) more.is)
