-- Why `stop_number` reads its nonterminal.
use Rattle.std.proofs.Common.{refl, Some, ap, sym, ◌∙◌}
use Rattle.rat_parse_table.specs.declared.table.Production.TheVariants as productions
use Rattle.descent.specs.Reading.{done, next}
use Rattle.rat_descent.proofs.Productions.{production, nothing, otherwise}
use Rattle.rat_descent.proofs.plain.stop_number.Goals as goal

pub returns-then-not-is_at : goal.returns-then-not-is_at
returns-then-not-is_at c = record { value = _; reads = nothing productions.BareStop refl refl (otherwise _ _ _ (sym c.is_at.ensures ∙ c.if-not-is_at.true)); is = refl }

pub returns : goal.returns
returns c = record { value = _; reads = production productions.OctalStop refl refl refl refl (next c.in_ok-token.ensures done); is = ap Some (sym c.octal_of_kind.ensures) }
