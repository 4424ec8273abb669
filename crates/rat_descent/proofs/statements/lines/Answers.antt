-- Why `lines` reads its nonterminal.
use Rattle.std.proofs.Common.{refl, sym, ◌∙◌}
use Rattle.rat_parse_table.specs.declared.table.Production.TheVariants as productions
use Rattle.descent.specs.Reading.{done, next}
use Rattle.rat_descent.proofs.Productions.{production, nothing, otherwise}
use Rattle.rat_descent.proofs.statements.lines.Goals as goal

pub returns-then-not-is_at : goal.returns-then-not-is_at
returns-then-not-is_at c = record { value = _; reads = c.more.invariant _ c.more.reader (nothing productions.NoLine refl refl (otherwise _ _ _ (sym c.is_at.ensures ∙ c.if-not-is_at.true))) }

pub more-preserved : goal.more-preserved
more-preserved c = λ v s more. c.more.invariant v s (production productions.OneLine refl refl refl refl (next c.in_ok-take_token.ensures (next more done)))
