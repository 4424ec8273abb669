-- Why `simple_item` reads its nonterminal.
use Rattle.std.proofs.Common.{refl, sym}
use Rattle.rat_parse_table.specs.declared.table.Production.TheVariants as productions
use Rattle.descent.specs.Reading.{done, next}
use Rattle.rat_descent.proofs.Productions.{production, as_value}
use Rattle.rat_descent.proofs.statements.simple_item.Goals as goal

pub returns : goal.returns
returns c =
    as_value (sym c.unmarked.ensures)
    (production productions.Unmarked refl refl refl refl
    (next (production productions.UntypedBare refl refl refl refl
    (next (production productions.PlainStatement refl refl refl refl
    (next (production productions.SimplePlain refl refl refl refl (next c.in_ok-place.ensures done)) (next c.in_ok-ending.ensures.reads done))) done)) done))
