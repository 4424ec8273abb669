-- What is left to join.
use Rattle.std.proofs.Common.{◌≡◌, drop}
use Rattle.stack_code.specs.Views.{instruction_of}
use Rattle.stack_code.specs.Ahead.{own, join_all}
use Rattle.stack_code.proofs.ahead.ahead_of.Given as goal

abbrev pub invariant-loop-to : goal.invariant-loop-to
invariant-loop-to l = join_all (own (instruction_of l.op) l.ahead) l.to-items l.ahead ≡ join_all l.found (drop l.to-index l.to-items) l.ahead
