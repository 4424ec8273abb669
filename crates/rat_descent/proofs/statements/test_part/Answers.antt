-- Why `test_part` reads its nonterminal.
use Rattle.std.proofs.Common.{refl, ap}
use Rattle.rat_parse_table.specs.declared.table.Nonterminal.TheVariants as nonterminals
use Rattle.rat_parse_table.specs.declared.table.Production.TheVariants as productions
use Rattle.rat_parse_table.specs.ParseTable.{predict_at}
use Rattle.descent.specs.Reading.{done, next}
use Rattle.rat_descent.proofs.Productions.{production, nothing}
use Rattle.rat_descent.proofs.statements.test_part.Goals as goal

pub returns-in-Semicolon : goal.returns-in-Semicolon
returns-in-Semicolon c = record { value = _; reads = nothing productions.NoTest refl refl (ap (predict_at nonterminals.Test) c.in-Semicolon.is); is = refl }

pub returns-in_ok-expression-in_default : goal.returns-in_ok-expression-in_default
returns-in_ok-expression-in_default c = record { value = _; reads = production productions.SomeTest refl refl refl refl (next c.in_ok-expression-in_default.ensures done); is = refl }
