-- The formals before are counted.
use Rattle.std.proofs.Common.{take}
use Rattle.efl_storage.specs.Named.{texts_of}
use Rattle.efl_reading.specs.Counting.{TakesFormals}
use Rattle.efl_reading.proofs.counting.meet_formals.Given as goal

abbrev pub invariant-loop-name : goal.invariant-loop-name
invariant-loop-name l = TakesFormals l.unit (texts_of l.names) l.blocks (texts_of (take l.name-index l.names)) l.initial.storage l.storage
