-- Why `groups` reads the groups of an EQUIVALENCE.
use Rattle.std.proofs.Common.{refl, sym, ◌∙◌, map}
use Rattle.f66_tree.specs.Views.{formula_of}
use Rattle.rat_parse_table.specs.declared.table.Production.TheVariants as productions
use Rattle.rat_parse_values.specs.Parts.{as_groups}
use Rattle.descent.specs.Reading.{done, next}
use Rattle.rat_descent.proofs.Productions.{production, otherwise, lengthens_nothing, lengthens_more, viewed_more}
use Rattle.rat_descent.proofs.ListItems.{behind_first}
use Rattle.rat_descent.proofs.aliases.groups.Goals as goal

pub returns-then-not-is_at : goal.returns-then-not-is_at
returns-then-not-is_at c =
    let rest = c.more.invariant (map (λ g. map formula_of g.items) c.more.list.items) c.more.reader
    (lengthens_nothing productions.NoMoreAlias as_groups refl refl refl (otherwise _ _ _ (sym c.is_at.ensures ∙ c.if-not-is_at.true))) in
    record {
      first = _;
      others = _;
      middle = _;
      reads_first = c.in_ok-group.ensures;
      reads_others = rest.reads;
      is = behind_first (λ g. map formula_of g.items) c.in_ok-group.field-0 c.new-list.ensures.items c.in_ok-push.ensures.items rest.is;
    }

pub more-preserved : goal.more-preserved
more-preserved c = λ all s more. c.more.invariant all s
    (lengthens_more as_groups (map (λ g. map formula_of g.items) c.more.list.items) {v = more.value}
    (production productions.MoreAlias refl refl refl refl (next c.in_ok-take_token.ensures (next c.in_ok-group-2.ensures (next more.reads done))))
    refl (viewed_more (λ g. map formula_of g.items) c.more.list.items c.in_ok-group-2.field-0 c.in_ok-push-2.ensures.items) more.is)
