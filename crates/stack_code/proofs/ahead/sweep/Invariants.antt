-- What lies ahead of those that were looked at is known, unless more is known now.
use Rattle.stack_code.specs.Views.{code_of}
use Rattle.stack_code.specs.Ahead.{AllHold, SeenFrom}
use Rattle.stack_code.proofs.ahead.sweep.Given as goal

abbrev pub invariant-loop-at : goal.invariant-loop-at
invariant-loop-at l = AllHold (code_of l.ops) l.ahead.items × SeenFrom (code_of l.ops) l.facts l.fn.ahead.items l.ahead.items l.at l.higher
