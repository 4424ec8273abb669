-- Why `condition` reads its nonterminal.
use Rattle.std.proofs.Common.{refl}
use Rattle.rat_parse_table.specs.declared.table.Production.TheVariants as productions
use Rattle.descent.specs.Reading.{done, next}
use Rattle.rat_descent.proofs.Productions.{production}
use Rattle.rat_descent.proofs.statements.condition.Goals as goal

pub returns : goal.returns
returns c = production productions.Condition refl refl refl refl (next c.in_ok-take_token.ensures (next c.in_ok-e.ensures (next c.in_ok-take_token-2.ensures done)))
