-- The pairs before stand there.
use Rattle.std.proofs.Common.{◌≡◌, ◌++◌, drop}
use Rattle.whole_program.specs.Linked.{initial_in}
use Rattle.whole_program.proofs.linked.Linked.initial.Given as goal

abbrev pub invariant-loop-k : goal.invariant-loop-k
invariant-loop-k l = l.pairs.items ++ initial_in (drop l.k l.self.numbers.items) (drop l.k l.preset-items) ≡ initial_in l.self.numbers.items l.preset-items
