-- Why `area` reads its nonterminal.
use Rattle.std.proofs.Common.{refl, ap, map}
use Rattle.f66_tree.specs.Views.{declared_of}
use Rattle.rat_parse_table.specs.declared.table.Production.TheVariants as productions
use Rattle.rat_parse_values.specs.Values.{area}
use Rattle.descent.specs.Reading.{done, next}
use Rattle.rat_descent.proofs.Productions.{production, as_value}
use Rattle.rat_descent.proofs.declarations.area.Goals as goal

pub returns : goal.returns
returns c =
    let name = c.in_ok-name.ensures in
    as_value (ap (λ x. area (record { name = x; list = map declared_of c.in_ok-list.list.items })) name.is)
    (production productions.Area refl refl refl refl (next c.in_ok-take_token.ensures (next name.reads (next c.in_ok-take_token-2.ensures (next c.in_ok-list.ensures done)))))
