-- Why `until_part` reads its nonterminal.
use Rattle.std.proofs.Common.{refl}
use Rattle.rat_parse_table.specs.declared.table.Production.TheVariants as productions
use Rattle.descent.specs.Reading.{done, next}
use Rattle.rat_descent.proofs.Productions.{production, nothing}
use Rattle.rat_descent.proofs.statements.until_part.Goals as goal

pub returns-in-Until : goal.returns-in-Until
returns-in-Until c = record {
  value = _;
  reads = c.more.invariant _ c.ending.new.reader (production productions.UntilTest refl refl refl refl
      (next c.in_ok-place-in-Until.ensures (next c.in_ok-test-in-Until.ensures (next c.in_ok-ending-in-Until.ensures.reads done))));
  is = refl;
}

pub returns-then-is_predicted : goal.returns-then-is_predicted
returns-then-is_predicted c = record {
  value = _;
  reads = c.more.invariant _ c.more.reader (nothing productions.NoUntil refl refl (c.is_predicted.ensures c.if-is_predicted.true));
  is = refl;
}

pub more-preserved : goal.more-preserved
more-preserved c = λ v s more. c.more.invariant v s (production productions.UntilLine refl refl refl refl (next c.in_ok-take_token-in-LineEnd.ensures (next more done)))
