-- The half that is kept holds the first bad step.
use Rattle.std.proofs.Common.{◌<◌, ◌≤◌, ◌+◌, ◌-◌, ◌/◌, length, slice_index, arith}
use Rattle.offset_classes.proofs.BadLemmas.{bad-longer}
use Rattle.offset_classes.proofs.first_bad.first_bad_step.Goals as goal

pub loop-low-preserved : goal.loop-low-preserved
loop-low-preserved c =
    let v = c.loop-low.invariant in
    let counts = c.args.counts.now in
    let middle = c.loop-low.low + (c.loop-low.high - c.loop-low.low) / 2 in
    let inside : middle < length counts = (let a = v.inside in let b = v.order in let d = c.loop-low-test.true in omega arith) in
    record {
      order = (let d = c.loop-low-test.true in omega arith);
      inside = v.inside;
      bad = v.bad;
      earlier = λ i i_in b.
          let le : i ≤ middle = omega arith in
          (rw c.if-branch.false at c.in_ok-is_bad_at.ensures) (bad-longer c.args.anchors c.args.links.now (slice_index counts i) (slice_index counts middle) (c.requires.rising i middle le inside) b);
    }

pub returns : goal.returns
returns c =
    let v = c.loop-low.invariant in
    record { inside = v.inside; bad = v.bad; earlier = λ i i_in. v.earlier i (omega arith) }
