-- Those before have their code.
use Rattle.std.proofs.Common.{◌≡◌, ◌++◌, drop}
use Rattle.f66_tree.specs.Views.{formulas_of}
use Rattle.stack_code.specs.Views.{code_of}
use Rattle.code_gen.specs.Expressions.{rooms_to_hand, values_code, actuals_code}
use Rattle.code_emit.proofs.values.+values.Given as goal

abbrev pub invariant-put_values-loop-e : goal.invariant-put_values-loop-e
invariant-put_values-loop-e g l = code_of l.ops.items ++ values_code (g.U.NamedUnit.layout l.unit) (g.U.NamedUnit.number l.unit) (formulas_of (drop l.e-index l.list)) ≡ code_of l.initial.ops.items ++ values_code (g.U.NamedUnit.layout l.unit) (g.U.NamedUnit.number l.unit) (formulas_of l.list)

abbrev pub invariant-put_actuals-loop-e : goal.invariant-put_actuals-loop-e
invariant-put_actuals-loop-e g l =
    (l.above ≡ rooms_to_hand ((g.U.NamedUnit.layout l.unit).linked.context (g.U.NamedUnit.number l.unit)) (formulas_of (drop l.e-index l.list))) × (code_of l.ops.items ++ actuals_code (g.U.NamedUnit.layout l.unit) (g.U.NamedUnit.number l.unit) (formulas_of (drop l.e-index l.list)) ≡ code_of l.initial.ops.items ++ actuals_code (g.U.NamedUnit.layout l.unit) (g.U.NamedUnit.number l.unit) (formulas_of l.list))
