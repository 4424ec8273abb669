-- What holds at each turn of the loops of `next_free`.
use Rattle.std.proofs.Common.{◌≡◌, ◌+◌, ◌-◌, ◌≤◌}
use Rattle.name_alloc.specs.Numbers.{above, free_from, free_number}
use Rattle.name_alloc.proofs.numbers.next_free.Given as goal

abbrev pub invariant-loop : goal.invariant-loop
invariant-loop l = record {
  same : free_from (l.end - l.counter) l.taken l.number ≡ free_number l.taken l.first;
  low : l.number + above l.number l.taken ≤ l.first + above l.first l.taken;
}
