-- Those that were told know it.
use Rattle.stack_code.specs.Views.{code_of}
use Rattle.stack_code.specs.Facts.{Telling, Changed}
use Rattle.stack_code.proofs.facts.tell_all.Given as goal

abbrev pub invariant-loop-to : goal.invariant-loop-to
invariant-loop-to l = Telling (code_of l.ops) l.fn.facts.items l.facts.items l.ways l.to-index l.behind × Changed l.pc l.fn.facts.items l.facts.items l.earlier
