-- Why `values` reads the values of a part of a DATA.
use Rattle.std.proofs.Common.{refl, sym, ◌∙◌, map}
use Rattle.f66_tree.specs.Views.{initial_of}
use Rattle.rat_parse_table.specs.declared.table.Production.TheVariants as productions
use Rattle.rat_parse_values.specs.Parts.{as_data}
use Rattle.descent.specs.Reading.{done, next}
use Rattle.rat_descent.proofs.Productions.{production, otherwise, lengthens_nothing, lengthens_more, viewed_more}
use Rattle.rat_descent.proofs.ListItems.{behind_first}
use Rattle.rat_descent.proofs.aliases.values.Goals as goal

pub returns-then-not-is_at : goal.returns-then-not-is_at
returns-then-not-is_at c =
    let rest = c.more.invariant (map initial_of c.more.list.items) c.more.reader
    (lengthens_nothing productions.NoMoreDatum as_data refl refl refl (otherwise _ _ _ (sym c.is_at.ensures ∙ c.if-not-is_at.true))) in
    record {
      first = _;
      others = _;
      middle = _;
      reads_first = c.in_ok-value.ensures;
      reads_others = rest.reads;
      is = behind_first initial_of c.in_ok-value.field-0 c.new-list.ensures.items c.in_ok-push.ensures.items rest.is;
    }

pub more-preserved : goal.more-preserved
more-preserved c = λ all s more. c.more.invariant all s
    (lengthens_more as_data (map initial_of c.more.list.items) {v = more.value}
    (production productions.MoreDatum refl refl refl refl (next c.in_ok-take_token.ensures (next c.in_ok-value-2.ensures (next more.reads done))))
    refl (viewed_more initial_of c.more.list.items c.in_ok-value-2.field-0 c.in_ok-push-2.ensures.items) more.is)
