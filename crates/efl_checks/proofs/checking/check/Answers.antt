-- No fault, or the first one, and the variables that were met.
use Rattle.std.proofs.Common.{map, sym, ap, subst, ◌∙◌}
use Rattle.efl_tree.specs.Views.{procedure_of, program_of}
use Rattle.efl_scope.specs.Marks.{program_variables}
use Rattle.efl_variables.specs.Numbered.{AreVariables}
use Rattle.efl_checks.proofs.checking.check.Goals as goal

pub returns-in-Some-clause-refused : goal.returns-in-Some-clause-refused
returns-in-Some-clause-refused c = λ fit.
    sym (c.walked_fault.ensures (program_of c.args.program.now) (ap (map procedure_of) (sym c.deref.ensures.value)) (c.in-Ok.ensures fit)) ∙ c.in-Some.is

pub returns-in-None-clause-accepted : goal.returns-in-None-clause-accepted
returns-in-None-clause-accepted c = λ fit.
    sym (c.walked_fault.ensures (program_of c.args.program.now) (ap (map procedure_of) (sym c.deref.ensures.value)) (c.in-Ok.ensures fit)) ∙ c.in-None.is

pub returns-in-None-clause-variables : goal.returns-in-None-clause-variables
returns-in-None-clause-variables c = λ fit.
    let known = c.in-Ok.ensures fit in
    subst (AreVariables (program_variables (program_of c.args.program.now))) (sym c.variables_met.ensures) known.counts.variables
