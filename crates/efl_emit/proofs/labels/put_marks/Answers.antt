-- One label more is put.
use Rattle.std.proofs.Common.{subst}
use Rattle.std.proofs.Math.ListN.{drop_of_length-le}
use Rattle.routes.specs.Code.{here}
use Rattle.efl_emit.specs.Emitted.{Puts}
use Rattle.efl_emit.specs.Names.{emission_of}
use Rattle.efl_room.proofs.Rows.{next_member}
use Rattle.efl_emit.proofs.Forms.{marks_more, marks_over}
use Rattle.efl_emit.proofs.labels.put_marks.Goals as goal

pub loop-label-preserved : goal.loop-label-preserved
loop-label-preserved c =
    let put = subst (λ l. Puts (here l c.args.place) (emission_of c.loop-label.out) (emission_of c.put_here.new.self)) c.label.ensures c.in_ok-put_here.ensures in
    marks_more c.args.naming.now _ _ _ _ (next_member c.args.labels.now c.loop-label.label-index c.label-item.result c.loop-label-test.true c.label-item.is) c.loop-label.invariant put

pub returns : goal.returns
returns c = marks_over _ _ (drop_of_length-le c.args.labels.now c.loop-label-test.false) c.loop-label.invariant
