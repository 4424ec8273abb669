-- The bytes that a read gave stand behind those that were there.
use Rattle.std.proofs.Common.{arith}
use Rattle.record_intake.proofs.Buffers.{read_put}
use Rattle.record_intake.proofs.intake.read_behind.Goals as goal

pub returns-clause-bytes : goal.returns-clause-bytes
returns-clause-bytes g c = read_put c.read.result c.args.buffer.now c.read.new.into _ c.args.end _ _ (omega arith) c.read.ensures.bound c.read.ensures.bytes
