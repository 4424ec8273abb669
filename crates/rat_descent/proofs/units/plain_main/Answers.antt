-- Why `plain_main` reads its nonterminal.
use Rattle.std.proofs.Common.{refl, ap}
use Rattle.rat_parse_table.specs.declared.table.Production.TheVariants as productions
use Rattle.rat_parse_values.specs.Values.{routine}
use Rattle.descent.specs.Reading.{done, next}
use Rattle.rat_descent.proofs.Productions.{production, as_value}
use Rattle.rat_descent.proofs.units.plain_main.Goals as goal

pub returns : goal.returns
returns c =
    let rest = c.in_ok-main_from.ensures in
    as_value (ap routine rest.is) (production productions.PlainMain refl refl refl refl (next c.in_ok-place.ensures (next rest.reads done)))
