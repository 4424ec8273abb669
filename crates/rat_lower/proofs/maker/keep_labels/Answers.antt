-- All labels are kept, and none is made yet.
use Rattle.std.proofs.Common.{◌+◌, drop, refl, sym, ap, subst}
use Rattle.name_alloc.specs.MadeNames.{Used}
use Rattle.rat_lower.proofs.Emitting.MadeLabels.{Kept, kept_next, kept_all, kept_labels}
use Rattle.rat_lower.proofs.maker.keep_labels.Goals as goal

pub loop-label-preserved : goal.loop-label-preserved
loop-label-preserved c =
    subst (λ s. Kept c.args.taken.now (drop (c.loop-label.label-index + 1) c.args.taken.now) s) (sym (ap (λ (u : Used). u.labels) c.in_ok-keep_label.ensures.taken))
    (kept_next c.args.taken.now c.loop-label.label-index _ c.loop-label.names.labels c.loop-label-test.true refl c.loop-label.invariant)

pub returns-clause-labels : goal.returns-clause-labels
returns-clause-labels c i =
    kept_labels c.args.taken.now c.loop-label.names.labels (kept_all c.args.taken.now c.loop-label.label-index c.loop-label.names.labels c.loop-label-test.false c.loop-label.invariant) i
