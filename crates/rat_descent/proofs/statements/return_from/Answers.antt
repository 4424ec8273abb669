-- Why `return_from` reads its nonterminal.
use Rattle.std.proofs.Common.{refl, ap}
use Rattle.rat_tree.specs.Syntax.{Return}
use Rattle.rat_parse_values.specs.Values.{command}
use Rattle.rat_parse_table.specs.declared.table.Production.TheVariants as productions
use Rattle.descent.specs.Reading.{done, next}
use Rattle.rat_descent.proofs.Productions.{production, as_value}
use Rattle.rat_descent.proofs.statements.return_from.Goals as goal

pub returns : goal.returns
returns c =
    let place = c.in_ok-place.field-0.now.place in
    as_value (ap (λ o. command place (Return place o)) c.in_ok-value.ensures.is)
    (production productions.ReturnStatement refl refl refl refl (next c.in_ok-place.ensures (next c.in_ok-value.ensures.reads (next c.in_ok-ending.ensures.reads done))))
