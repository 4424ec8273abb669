-- Bytes that were copied to the front.
use Rattle.std.proofs.Common.{ap, ◌∙◌, ◌-◌, take}
use Rattle.record_intake.proofs.Buffers.{fronted}
use Rattle.record_intake.proofs.intake.settled.Goals as goal

pub returns-clause-bytes : goal.returns-clause-bytes
returns-clause-bytes c = ap (take (c.args.end - c.args.first)) c.copy_within.ensures.after ∙ fronted c.args.buffer.now c.args.first c.args.end c.requires.order c.requires.within
