-- Where a fault is there it stays, and else that of these parts comes.
use Rattle.std.proofs.Common.{sym}
use Rattle.efl_reading.proofs.ReadingLemmas.{behind_done}
use Rattle.efl_reading.proofs.AloneLemmas.{parts_noted}
use Rattle.efl_reading.proofs.progress.Progress.note_all.Goals as goal

pub returns-then-is_done : goal.returns-then-is_done
returns-then-is_done c = λ us vs ws known quiet is. behind_done us vs ws c.args.self.now (sym c.if-is_done.ensures) known

pub returns : goal.returns
returns c = λ us vs ws known quiet is. parts_noted us vs ws c.args.self.now c.args.fault (sym c.if-is_done.ensures) known quiet is
