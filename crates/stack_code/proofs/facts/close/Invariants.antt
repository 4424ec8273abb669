-- Nothing that is known is lost, and each further pass leaves less unknown.
use Rattle.stack_code.specs.Views.{code_of}
use Rattle.stack_code.specs.Facts.{Passes, unknown}
use Rattle.stack_code.proofs.facts.close.Given as goal

abbrev pub invariant-again : goal.invariant-again
invariant-again l = Passes (code_of l.ops) l.fn.facts.items l.facts.items

abbrev pub decreases-again : goal.decreases-again
decreases-again l = unknown l.facts.items
