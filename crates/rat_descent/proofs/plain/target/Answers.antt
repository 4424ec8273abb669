-- Why `target` reads its nonterminal.
use Rattle.std.proofs.Common.{refl, ap, sym}
use Rattle.f66_tree.specs.Syntax.{Goto}
use Rattle.rat_parse_table.specs.declared.table.Production.TheVariants as productions
use Rattle.descent.specs.Reading.{done, next}
use Rattle.rat_descent.proofs.Productions.{production}
use Rattle.rat_descent.proofs.plain.target.Goals as goal

pub returns : goal.returns
returns c = record { value = _; reads = production productions.OneTarget refl refl refl refl (next c.in_ok-number_token.ensures done); is = ap Goto (sym c.number_of-label.ensures) }
