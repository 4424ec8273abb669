-- One more column, and none left.
use Rattle.card_reader.proofs.ColumnLemmas.{one_column, no_column}
use Rattle.std.proofs.Common.{◌≡◌, ◌-◌, ◌++◌, subst, ℕ, drop, arith}
use Rattle.card_reader.specs.Cards.{columns}
use Rattle.card_reader.proofs.cards.card.Goals as goal

pub loop-i-preserved : goal.loop-i-preserved
loop-i-preserved c =
    let told = one_column c.loop-i.columns.items c.args.line.now c.loop-i.i c.column.result c.loop-i-test.true c.column.ensures c.loop-i.invariant.told in
    record { told = rw c.push.ensures.items told; size = omega (arith, c.push.ensures.len) }

pub returns-clause-columns : goal.returns-clause-columns
returns-clause-columns c =
    let all : c.loop-i.i ≡ 72 = omega arith in
    no_column c.loop-i.columns.items c.args.line.now (subst (λ (i : ℕ). c.loop-i.columns.items ++ columns (72 - i) (drop i c.args.line.now) ≡ columns 72 c.args.line.now) all c.loop-i.invariant.told)
