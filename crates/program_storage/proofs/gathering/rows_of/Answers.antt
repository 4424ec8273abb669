-- One unit more has its rows and links.
use Rattle.std.proofs.Common.{sym, subst}
use Rattle.f66_tree.specs.Views.{routine_of}
use Rattle.storage_assoc.specs.Naming.{IsReady}
use Rattle.storage_assoc.proofs.ListLemmas.{taken_more}
use Rattle.program_storage.proofs.gathering.rows_of.Goals as goal

pub add_unit-requires-clause-ready : goal.add_unit-requires-clause-ready
add_unit-requires-clause-ready c =
    let i = c.loop-unit.unit-index in
    let u = c.unit-item.result in
    subst (λ u. IsReady (routine_of u)) (sym c.unit-item.is) (c.requires.ready i u c.loop-unit-test.true)

pub loop-unit-preserved : goal.loop-unit-preserved
loop-unit-preserved c =
    let e = taken_more routine_of c.args.units.now c.loop-unit.unit-index c.unit-item.result c.loop-unit-test.true c.unit-item.is in
    record {
      few = c.in_ok-add_unit.ensures.few;
      part = rw e (c.in_ok-add_unit.ensures.added _ _ c.loop-unit.invariant.part);
    }
