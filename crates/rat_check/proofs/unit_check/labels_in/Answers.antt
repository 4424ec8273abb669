-- One part more.
use Rattle.std.proofs.Common.{◌+◌, drop, sym, ap, ◌∙◌}
use Rattle.rat_check.specs.PartViews.{parts_seen}
use Rattle.rat_check.specs.Survey.{own_labels}
use Rattle.rat_check.proofs.RuleLemmas.{next_part}
use Rattle.rat_check.proofs.unit_check.labels_in.Goals as goal

pub loop-part-preserved : goal.loop-part-preserved
loop-part-preserved c =
    let l = c.loop-part in
    let rest = parts_seen (drop (l.part-index + 1) c.args.parts.now) in
    ap (own_labels rest) c.in_ok-insert_if.ensures
    ∙ sym (ap (λ vs. own_labels vs l.labels) (next_part c.args.parts.now l.part-index c.part-item.result c.loop-part-test.true c.part-item.is)) ∙ l.invariant
