-- Why `unit` reads its nonterminal.
use Rattle.std.proofs.Common.{refl}
use Rattle.rat_parse_table.specs.declared.table.Production.TheVariants as productions
use Rattle.descent.specs.Reading.{done, next}
use Rattle.rat_descent.proofs.Productions.{production}
use Rattle.rat_descent.proofs.units.unit.Goals as goal

pub returns : goal.returns
returns c = production productions.OneUnit refl refl c.open_production.ensures c.close_production.ensures (next c.in_ok-unit.ensures done)
