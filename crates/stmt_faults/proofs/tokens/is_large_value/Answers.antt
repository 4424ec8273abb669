-- A value that is too large stays so.
use Rattle.std.proofs.Common.{drop, nat_lt, ap, sym, ◌∙◌}
use Rattle.stmt_faults.proofs.Seen.{stays_large}
use Rattle.stmt_faults.proofs.tokens.is_large_value.Goals as goal

pub returns-then-value-gt-GREATEST : goal.returns-then-value-gt-GREATEST
returns-then-value-gt-GREATEST c =
    sym (ap (nat_lt 2147483647) (sym c.loop-c.invariant.0) ∙ stays_large c.loop-c.value (drop c.loop-c.c-index c.args.digits.now) c.if-value-gt-GREATEST.true)
