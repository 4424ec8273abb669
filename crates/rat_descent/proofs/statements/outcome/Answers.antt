-- Why `outcome` reads its nonterminal.
use Rattle.std.proofs.Common.{refl, sym, ◌∙◌}
use Rattle.rat_parse_table.specs.declared.table.Production.TheVariants as productions
use Rattle.descent.specs.Reading.{done, next}
use Rattle.rat_descent.proofs.Productions.{production, nothing, otherwise}
use Rattle.rat_descent.proofs.statements.outcome.Goals as goal

pub returns-then-not-is_at : goal.returns-then-not-is_at
returns-then-not-is_at c = record { value = _; reads = nothing productions.NoOutcome refl refl (otherwise _ _ _ (sym c.is_at.ensures ∙ c.if-not-is_at.true)); is = refl }

pub returns : goal.returns
returns c = record { value = _; reads = production productions.SomeOutcome refl refl refl refl (next c.in_ok-condition.ensures done); is = refl }
