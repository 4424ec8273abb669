-- Why `actual` reads its nonterminal.
use Rattle.std.proofs.Common.{refl, ap, sym}
use Rattle.f66_tree.specs.Syntax.{Letter}
use Rattle.rat_parse_table.specs.declared.table.Production.TheVariants as productions
use Rattle.descent.specs.Reading.{done, next}
use Rattle.rat_descent.proofs.Productions.{production}
use Rattle.rat_descent.proofs.plain.actual.Goals as goal

pub returns-then-is_at : goal.returns-then-is_at
returns-then-is_at c = record { value = _; reads = production productions.LetterActual refl refl refl refl (next c.in_ok-take_token.ensures done); is = ap Letter (sym c.letter_at.ensures) }

pub returns : goal.returns
returns c = record { value = _; reads = production productions.ExprActual refl refl refl refl (next c.in_ok-expression.ensures done); is = refl }
