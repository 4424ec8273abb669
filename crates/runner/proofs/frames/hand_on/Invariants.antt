-- What is handed on so far.
use Rattle.runner.specs.Frames.{AreHanded}
use Rattle.runner.proofs.frames.hand_on.Given as goal

abbrev pub invariant-loop-index : goal.invariant-loop-index
invariant-loop-index l = AreHanded l.stack l.from l.index l.fn.spots l.spots l.base
