-- Those before have their code.
use Rattle.std.proofs.Common.{◌≡◌, ◌++◌, map, drop}
use Rattle.f66_tree.specs.Views.{par_of}
use Rattle.stack_code.specs.Views.{code_of}
use Rattle.code_gen.specs.Expressions.{pars_code}
use Rattle.code_emit.proofs.variables.put_pars.Given as goal

abbrev pub invariant-loop-par : goal.invariant-loop-par
invariant-loop-par g l = code_of l.ops.items ++ pars_code (g.U.NamedUnit.layout l.unit) (g.U.NamedUnit.number l.unit) (map par_of (drop l.par-index l.pars)) ≡ code_of l.initial.ops.items ++ pars_code (g.U.NamedUnit.layout l.unit) (g.U.NamedUnit.number l.unit) (map par_of l.pars)
