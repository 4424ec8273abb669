-- What holds at each turn of the loops of `drop_ended`.
use Rattle.std.proofs.Common.{◌≡◌, ◌≤◌, ℕ, vec_len}
use Rattle.f66_flow.specs.Innermost.{last_range}
use Rattle.f66_flow.proofs.ranges.drop_ended.Given as goal

abbrev pub invariant-loop-stack : goal.invariant-loop-stack
invariant-loop-stack l = (q : ℕ) → l.place ≤ q → last_range q l.stack.items ≡ last_range q l.initial.stack.items

abbrev pub decreases-loop-stack : goal.decreases-loop-stack
decreases-loop-stack l = vec_len l.stack
