-- Why `ending` reads its nonterminal.
use Rattle.std.proofs.Common.{refl, ap, ⊎_elim}
use Rattle.rat_parse_table.specs.declared.table.Nonterminal.TheVariants as nonterminals
use Rattle.rat_parse_table.specs.declared.table.Production.TheVariants as productions
use Rattle.rat_parse_table.specs.ParseTable.{predict_at}
use Rattle.descent.specs.Reading.{done, next}
use Rattle.rat_descent.proofs.Productions.{production, nothing}
use Rattle.rat_descent.proofs.statements.ending.Goals as goal

pub returns-in-CloseBrace : goal.returns-in-CloseBrace
returns-in-CloseBrace c = record { value = _; reads = nothing productions.NoEnding refl refl (⊎_elim (λ e. ap (predict_at nonterminals.Ending) e) (λ e. ap (predict_at nonterminals.Ending) e) c.in-CloseBrace.is) }

pub returns-in_ok-take_token-in-Semicolon : goal.returns-in_ok-take_token-in-Semicolon
returns-in_ok-take_token-in-Semicolon c = record { value = _; reads = production productions.EndingSign refl refl refl refl (next c.in_ok-take_token-in-Semicolon.ensures done) }

pub returns-in_ok-take_token-in_default : goal.returns-in_ok-take_token-in_default
returns-in_ok-take_token-in_default c = record { value = _; reads = production productions.EndingLine refl refl refl refl (next c.in_ok-take_token-in_default.ensures done) }
