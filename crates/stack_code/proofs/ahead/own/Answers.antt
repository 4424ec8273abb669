-- The entry that is called is in the code.
use Rattle.std.proofs.Common.{ap}
use Rattle.stack_code.specs.Views.{instruction_of}
use Rattle.stack_code.proofs.ahead.own.Goals as goal

pub ahead_at-requires : goal.ahead_at-requires
ahead_at-requires c = record { within = c.requires.within c.in-Call.to c.in-Call.field-1 (ap instruction_of c.in-Call.is) }
