-- What came and went since the step began.
use Rattle.format_io.specs.Places.{hand_of}
use Rattle.record_flow.specs.Moves.{to_close, left_of}
use Rattle.record_flow.proofs.Walking.{Since}
use Rattle.record_flow.proofs.flow.Flow.close.Given as goal

abbrev pub invariant-turns : goal.invariant-turns
invariant-turns g l = Since g.S.Source.left g.K.Sink.puts g.S.Source.faults g.K.Sink.faults l.fn.input l.input l.fn.out l.out to_close l.plan l.fn.self l.self

abbrev pub decreases-turns : goal.decreases-turns
decreases-turns g l = left_of (hand_of l.plan l.self.stand)
