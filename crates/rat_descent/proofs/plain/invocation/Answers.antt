-- Why `invocation` reads its nonterminal.
use Rattle.std.proofs.Common.{refl, ap, sym, ◌∙◌}
use Rattle.f66_tree.specs.Syntax.{Invoke}
use Rattle.f66_tree.specs.Views.{chained}
use Rattle.rat_parse_values.specs.Values.{deed}
use Rattle.rat_parse_values.specs.Parts.{as_exprs}
use Rattle.rat_parse_table.specs.declared.table.Production.TheVariants as productions
use Rattle.descent.specs.Reading.{done, next}
use Rattle.rat_descent.proofs.Productions.{production, as_value}
use Rattle.rat_descent.proofs.plain.invocation.Goals as goal

pub returns : goal.returns
returns c =
    let list = c.in_ok-list.ensures in
    as_value (ap (λ x. deed c.in_ok-place.field-0.now.place (Invoke x (chained (as_exprs list.value)))) (sym c.in_ok-name.ensures)
    ∙ ap (λ fs. deed c.in_ok-place.field-0.now.place (Invoke c.in_ok-name.name (chained fs))) list.is)
    (production productions.Invocation refl refl refl refl (next c.in_ok-place.ensures (next c.in_ok-name_token.ensures (next list.reads done))))
