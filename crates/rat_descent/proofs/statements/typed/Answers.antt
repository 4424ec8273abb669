-- Why `typed` reads its nonterminal.
use Rattle.std.proofs.Common.{refl, sym}
use Rattle.rat_parse_table.specs.declared.table.Production.TheVariants as productions
use Rattle.descent.specs.Reading.{done, next}
use Rattle.rat_descent.proofs.Productions.{production, as_value}
use Rattle.rat_descent.proofs.statements.typed.Goals as goal

pub returns : goal.returns
returns c =
    as_value (sym c.declaring.ensures)
    (production productions.TypedBare refl refl refl refl (next c.in_ok-word.ensures (next c.in_ok-list.ensures (next c.in_ok-ending.ensures.reads done))))
