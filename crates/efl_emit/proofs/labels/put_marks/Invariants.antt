-- So far the labels before are put.
use Rattle.std.proofs.Common.{drop}
use Rattle.efl_emit.specs.Names.{emission_of}
use Rattle.efl_emit.proofs.Forms.{MarksSoFar}
use Rattle.efl_emit.proofs.labels.put_marks.Given as goal

abbrev pub invariant-loop-label : goal.invariant-loop-label
invariant-loop-label l =
    MarksSoFar l.naming l.place l.labels (drop l.label-index l.labels) (emission_of l.initial.out) (emission_of l.out)
