-- No fault, or the first one.
use Rattle.std.proofs.Common.{sym, ◌∙◌}
use Rattle.efl_tree.specs.Views.{program_of}
use Rattle.efl_scoped.proofs.FirstLemmas.{no_fault, a_fault}
use Rattle.efl_scoped.proofs.checking.scope.Goals as goal

pub invariant_of-result : goal.invariant_of-result
invariant_of-result c = no_fault (program_of c.args.program) (sym c.in-Ok-None.field-0-is ∙ c.in-Ok-None.ensures)

pub returns-in-Ok-Some-clause-refused : goal.returns-in-Ok-Some-clause-refused
returns-in-Ok-Some-clause-refused c = a_fault (program_of c.args.program) c.in-Ok-Some.fault (sym c.in-Ok-Some.field-0-is ∙ c.in-Ok-Some.ensures)

pub returns-in-Ok-None-clause-scoped : goal.returns-in-Ok-None-clause-scoped
returns-in-Ok-None-clause-scoped c = no_fault (program_of c.args.program) (sym c.in-Ok-None.field-0-is ∙ c.in-Ok-None.ensures)
