-- The units before are fit, and this one is too, or is the first that is not.
use Rattle.std.proofs.Common.{map, refl, sym, subst, slice_index_or, arith}
use Rattle.f66_tree.specs.Views.{routine_of}
use Rattle.storage_assoc.specs.Naming.{IsReady}
use Rattle.associated_units.proofs.FitLemmas.{unit_at, fit, one_more, refused}
use Rattle.associated_units.proofs.checking.check_storage.Goals as goal

pub associate-requires : goal.associate-requires
associate-requires c = record { ready = subst (λ u. IsReady (routine_of u)) (sym c.unit-item.is) (c.requires.ready c.loop-unit.unit-index c.unit-item.result c.loop-unit-test.true) }

pub returns-in-Err-clause-refused : goal.returns-in-Err-clause-refused
returns-in-Err-clause-refused c =
    let units = c.args.units.now in
    let i = c.loop-unit.unit-index in
    let u = c.unit-item.result in
    refused (map routine_of units) i (routine_of u) (unit_at routine_of units i u u c.loop-unit-test.true c.unit-item.is) c.loop-unit.invariant c.in-Err.refusal c.in-Err.ensures.refused

pub loop-unit-preserved : goal.loop-unit-preserved
loop-unit-preserved c =
    let units = c.args.units.now in
    let i = c.loop-unit.unit-index in
    let u = c.unit-item.result in
    one_more (map routine_of units) i (routine_of u) (unit_at routine_of units i u u c.loop-unit-test.true c.unit-item.is) c.loop-unit.invariant
    (fit (routine_of u) _ _ c.in_default.ensures.associated)

pub returns-clause-fit : goal.returns-clause-fit
returns-clause-fit c = λ k d lt.
    let units = c.args.units.now in
    c.loop-unit.invariant k (routine_of (slice_index_or units k d)) (let behind = c.loop-unit-test.false in omega (arith, lt, behind)) (unit_at routine_of units k (slice_index_or units k d) d lt refl)
