-- Why `step` gives its nonterminal.
use Rattle.std.proofs.Common.{rules, refl, sym, ◌∙◌}
use Rattle.rat_parse_table.specs.declared.table.Production.TheVariants as productions
use Rattle.descent.specs.Reading.{done, next}
use Rattle.rat_descent.proofs.Productions.{production, nothing, otherwise}
use Rattle.rat_descent.proofs.declarations.step.Goals as goal

pub returns-then-not-is_at : goal.returns-then-not-is_at
returns-then-not-is_at c = record {
  value = _;
  reads = nothing productions.NoStep refl refl (otherwise _ _ _ (sym c.is_at.ensures ∙ c.if-not-is_at.true));
  is = search rules;
}

pub returns : goal.returns
returns c = record {
  value = _;
  reads = production productions.SomeStep refl refl refl refl (next c.in_ok-take_token.ensures (next c.in_ok-parameter.ensures done));
  is = refl;
}
