-- What is found is there, and each further sweep leaves less to find.
use Rattle.std.proofs.Common.{length}
use Rattle.stack_code.specs.Views.{code_of}
use Rattle.stack_code.specs.Ahead.{AllHold, slack}
use Rattle.stack_code.proofs.ahead.sweep_all.Given as goal

abbrev pub invariant-again : goal.invariant-again
invariant-again l = AllHold (code_of l.ops) l.ahead.items

abbrev pub decreases-again : goal.decreases-again
decreases-again l = slack (length (code_of l.ops)) l.ahead.items
