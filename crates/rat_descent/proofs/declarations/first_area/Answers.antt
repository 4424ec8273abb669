-- Why `first_area` reads its nonterminal.
use Rattle.std.proofs.Common.{refl}
use Rattle.rat_parse_table.specs.declared.table.Production.TheVariants as productions
use Rattle.descent.specs.Reading.{done, next}
use Rattle.rat_descent.proofs.Productions.{production}
use Rattle.rat_descent.proofs.declarations.first_area.Goals as goal

pub returns-then-is_at : goal.returns-then-is_at
returns-then-is_at c = production productions.NamedFirst refl refl refl refl (next c.in_ok-area.ensures done)

pub returns : goal.returns
returns c = production productions.BlankFirst refl refl refl refl (next c.in_ok-list.ensures done)
