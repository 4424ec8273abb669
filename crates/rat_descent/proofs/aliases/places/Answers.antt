-- Why `places` reads the places of a part of a DATA.
use Rattle.std.proofs.Common.{refl, sym, ◌∙◌, map}
use Rattle.f66_tree.specs.Views.{formula_of}
use Rattle.rat_parse_table.specs.declared.table.Production.TheVariants as productions
use Rattle.rat_parse_values.specs.Parts.{as_exprs}
use Rattle.descent.specs.Reading.{done, next}
use Rattle.rat_descent.proofs.Productions.{production, otherwise, lengthens_nothing, lengthens_more, viewed_more}
use Rattle.rat_descent.proofs.ListItems.{behind_first}
use Rattle.rat_descent.proofs.aliases.places.Goals as goal

pub returns-then-not-is_at : goal.returns-then-not-is_at
returns-then-not-is_at c =
    let rest = c.more.invariant (map formula_of c.more.list.items) c.more.reader
    (lengthens_nothing productions.NoMoreRef as_exprs refl refl refl (otherwise _ _ _ (sym c.is_at.ensures ∙ c.if-not-is_at.true))) in
    record {
      first = _;
      others = _;
      middle = _;
      reads_first = c.in_ok-reference.ensures;
      reads_others = rest.reads;
      is = behind_first formula_of c.in_ok-reference.field-0.1 c.new-list.ensures.items c.in_ok-push.ensures.items rest.is;
    }

pub more-preserved : goal.more-preserved
more-preserved c = λ all s more. c.more.invariant all s
    (lengthens_more as_exprs (map formula_of c.more.list.items) {v = more.value}
    (production productions.MoreRef refl refl refl refl (next c.in_ok-take_token.ensures (next c.in_ok-reference-2.ensures (next more.reads done))))
    refl (viewed_more formula_of c.more.list.items c.in_ok-reference-2.field-0.1 c.in_ok-push-2.ensures.items) more.is)
