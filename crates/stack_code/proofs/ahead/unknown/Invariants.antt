-- Nothing is known so far.
use Rattle.std.proofs.Common.{◌≡◌, ℕ, length, get_or}
use Rattle.stack_code.specs.Ahead.{nothing}
use Rattle.stack_code.proofs.ahead.unknown.Given as goal

abbrev pub invariant-loop : goal.invariant-loop
invariant-loop l = (length l.ahead.items ≡ l.counter) × ((at : ℕ) → get_or l.ahead.items at nothing ≡ nothing)
