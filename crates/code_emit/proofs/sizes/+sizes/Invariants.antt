-- Those before are counted.
use Rattle.std.proofs.Common.{◌≡◌, ◌+◌, drop}
use Rattle.f66_tree.specs.Views.{formulas_of}
use Rattle.code_emit.specs.Sizes.{values_size, actuals_size}
use Rattle.code_emit.proofs.sizes.+sizes.Given as goal

abbrev pub invariant-values_size-loop-e : goal.invariant-values_size-loop-e
invariant-values_size-loop-e g l =
    let y = g.U.NamedUnit.layout l.unit in
    let u = g.U.NamedUnit.number l.unit in
    l.sum + values_size y u (formulas_of (drop l.e-index l.list)) ≡ values_size y u (formulas_of l.list)

abbrev pub invariant-actuals_size-loop-e : goal.invariant-actuals_size-loop-e
invariant-actuals_size-loop-e g l =
    let y = g.U.NamedUnit.layout l.unit in
    let u = g.U.NamedUnit.number l.unit in
    l.sum + actuals_size y u (formulas_of (drop l.e-index l.list)) ≡ actuals_size y u (formulas_of l.list)
