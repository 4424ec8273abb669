-- Why `plain` reads its nonterminal.
use Rattle.std.proofs.Common.{refl}
use Rattle.rat_parse_table.specs.declared.table.Production.TheVariants as productions
use Rattle.descent.specs.Reading.{done, next}
use Rattle.rat_descent.proofs.Productions.{production}
use Rattle.rat_descent.proofs.plain.plain.Goals as goal

pub returns-in_ok-simple-in-Name : goal.returns-in_ok-simple-in-Name
returns-in_ok-simple-in-Name c = production productions.SimplePlain refl refl refl refl (next c.in_ok-simple-in-Name.ensures done)

pub returns-in_ok-place-in-Continue : goal.returns-in_ok-place-in-Continue
returns-in_ok-place-in-Continue c = production productions.ContinuePlain refl refl refl refl (next c.in_ok-place-in-Continue.ensures done)
