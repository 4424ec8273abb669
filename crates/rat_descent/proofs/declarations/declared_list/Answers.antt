-- Why `declared_list` reads its nonterminal.
use Rattle.std.proofs.Common.{refl, sym, ap, ◌∙◌, map}
use Rattle.f66_tree.specs.Views.{declared_of}
use Rattle.rat_parse_table.specs.declared.table.Production.TheVariants as productions
use Rattle.rat_parse_values.specs.Values.{declareds}
use Rattle.rat_parse_values.specs.Parts.{as_declareds}
use Rattle.descent.specs.Reading.{done, next}
use Rattle.rat_descent.proofs.Productions.{production, otherwise, as_value, lengthens_nothing, lengthens_more, viewed_more}
use Rattle.rat_descent.proofs.ListItems.{behind_first}
use Rattle.rat_descent.proofs.declarations.declared_list.Goals as goal

pub returns-then-not-is_at : goal.returns-then-not-is_at
returns-then-not-is_at c =
    let rest = c.more.invariant (map declared_of c.more.list.items) c.more.reader
    (lengthens_nothing productions.NoMoreDeclared as_declareds refl refl refl (otherwise _ _ _ (sym c.is_at.ensures ∙ c.if-not-is_at.true))) in
    as_value (ap declareds (behind_first declared_of c.in_ok-declared.field-0 c.new-list.ensures.items c.in_ok-push.ensures.items rest.is))
    (production productions.DeclaredList refl refl refl refl (next c.in_ok-declared.ensures (next rest.reads done)))

pub more-preserved : goal.more-preserved
more-preserved c = λ all s more. c.more.invariant all s
    (lengthens_more as_declareds (map declared_of c.more.list.items) {v = more.value}
    (production productions.MoreDeclared refl refl refl refl (next c.in_ok-take_token.ensures (next c.in_ok-declared-2.ensures (next more.reads done))))
    refl (viewed_more declared_of c.more.list.items c.in_ok-declared-2.field-0 c.in_ok-push-2.ensures.items) more.is)
