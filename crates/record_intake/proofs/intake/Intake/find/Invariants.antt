-- What was got so far.
use Rattle.record_intake.proofs.Asking.{Asks, reads_left}
use Rattle.record_intake.proofs.intake.Intake.find.Given as goal

abbrev pub invariant-reads : goal.invariant-reads
invariant-reads g l = Asks l.initial.input l.input (g.S.Source.left l.initial.input) (g.S.Source.left l.input) (g.S.Source.faults l.initial.input) (g.S.Source.faults l.input) l.initial.self l.self

abbrev pub decreases-reads : goal.decreases-reads
decreases-reads g l = reads_left l.self
