-- Those that were looked at are settled, unless something earlier was new.
use Rattle.stack_code.specs.Views.{code_of}
use Rattle.stack_code.specs.Facts.{Passes, Progress}
use Rattle.stack_code.proofs.facts.pass.Given as goal

abbrev pub invariant-loop-pc : goal.invariant-loop-pc
invariant-loop-pc l = Passes (code_of l.ops) l.fn.facts.items l.facts.items × Progress (code_of l.ops) l.fn.facts.items l.facts.items l.pc l.earlier
