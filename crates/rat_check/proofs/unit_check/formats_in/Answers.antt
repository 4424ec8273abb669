-- One part more.
use Rattle.std.proofs.Common.{◌+◌, drop, sym, ap, ◌∙◌}
use Rattle.rat_check.specs.FirstFault.{with_formats}
use Rattle.rat_check.specs.PartViews.{part_of, parts_seen}
use Rattle.rat_check.specs.Survey.{is_among}
use Rattle.rat_check.proofs.RuleLemmas.{next_part, format_passed}
use Rattle.rat_check.proofs.unit_check.formats_in.Goals as goal

pub loop-part-preserved : goal.loop-part-preserved
loop-part-preserved c =
    let l = c.loop-part in
    let rest = parts_seen (drop (l.part-index + 1) c.args.parts.now) in
    format_passed (part_of c.part-item.result) rest l.formats c.add_format.new.formats c.in_ok-add_format.ensures
    ∙ sym (ap (λ vs. with_formats vs (is_among l.formats)) (next_part c.args.parts.now l.part-index c.part-item.result c.loop-part-test.true c.part-item.is)) ∙ l.invariant
