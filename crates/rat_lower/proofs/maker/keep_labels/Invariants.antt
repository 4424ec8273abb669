-- The labels before are kept.
use Rattle.std.proofs.Common.{drop}
use Rattle.rat_lower.proofs.Emitting.MadeLabels.{Kept}
use Rattle.rat_lower.proofs.maker.keep_labels.Given as goal

abbrev pub invariant-loop-label : goal.invariant-loop-label
invariant-loop-label l = Kept l.taken (drop l.label-index l.taken) l.names.labels
