-- One row more moves the end of its class.
use Rattle.std.proofs.Common.{◌≡◌, ◌∙◌, length, sym, ap}
use Rattle.storage_rules.specs.Ends.{AreEnds}
use Rattle.storage_rules.proofs.EndLemmas.{no_ends, ends_more, whole_written}
use Rattle.storage_rules.proofs.ends.ends_of.Goals as goal

pub loop-row-init : goal.loop-row-init
loop-row-init c = record { many = c.in_ok-ends.ensures.0; ends = no_ends c.args.seats.now c.args.sizes.now c.in_ok-ends.ends.items c.in_ok-ends.ensures.1 }

pub loop-row-preserved : goal.loop-row-preserved
loop-row-preserved c =
    let seats = c.args.seats.now in
    let sizes = c.args.sizes.now in
    let n = c.loop-row.row in
    let old = c.loop-row.ends in
    let v = c.loop-row.invariant in
    let new = c.reach.new.ends in
    let e = c.deref_mut.ensures.value in
    let kept : length new ≡ length c.deref_mut.result.now = c.reach.auto.ends in
    let same = whole_written new old.items old.len old.ok.0 (kept ∙ ap length e ∙ sym old.ok.0) in
    let h = rw e at c.reach.ensures in
    let more : AreEnds seats sizes _ new = ends_more seats sizes n old.items new v.ends h.none h.others h.here in
    rw same (record { many = kept ∙ ap length e ∙ v.many; ends = more })
