-- The invariant of the loop, and how far its end is.
use Rattle.std.specs.Prelude.{◌≡◌, drop, map}
use Rattle.stack_code.specs.Views.{code_of}
use Rattle.runner.specs.Frames.{place_at, back_of}
use Rattle.runner.proofs.Measure.{far}
use Rattle.runner.proofs.UnderWay.{IsUnderWay}
use Rattle.runner.proofs.run.run_code.Given as goal

abbrev pub invariant-turn : goal.invariant-turn
invariant-turn g l = IsUnderWay g.S.Source.left g.K.Sink.puts g.S.Source.faults g.K.Sink.faults l.fn.input l.input l.fn.out l.out l.fn.flow l.flow l.fn.code l.steps l.pc l.left l.top l.stack l.cells (place_at (code_of l.fn.code.ops.items) l.begun) l.done l.from (record { level = l.level; base = l.base; spots = l.spots; resumes = map (back_of (code_of l.fn.code.ops.items)) l.resumes }) l.plan × (l.ahead ≡ drop l.pc l.fn.code.ops.items)

abbrev pub decreases-turn : goal.decreases-turn
decreases-turn g l = far (code_of l.fn.code.ops.items) l.pc l.left l.level
