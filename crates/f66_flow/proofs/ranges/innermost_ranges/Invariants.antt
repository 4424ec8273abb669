-- What holds at each turn of the loops of `innermost_ranges`.
use Rattle.std.proofs.Common.{◌≡◌, ◌≤◌, ◌<◌, ℕ, length, take, None, get_or}
use Rattle.std.specs.Prelude.{nat_le}
use Rattle.rule_table.specs.Words.{last_place}
use Rattle.f66_flow.specs.Innermost.{last_range, innermost}
use Rattle.f66_flow.proofs.ranges.innermost_ranges.Given as goal

abbrev pub invariant-loop-place : goal.invariant-loop-place
invariant-loop-place l =
    ((q : ℕ) → l.place ≤ q → last_range q l.stack.items ≡ last_place (λ end. nat_le q end) (take l.place l.ends))
    × (length l.around.items ≡ l.place)
    × ((n : ℕ) → n < l.place → get_or l.around.items n None ≡ innermost l.ends n)
