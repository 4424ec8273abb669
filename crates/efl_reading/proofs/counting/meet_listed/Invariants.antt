-- The names before are counted.
use Rattle.std.proofs.Common.{take}
use Rattle.efl_storage.specs.Named.{texts_of}
use Rattle.efl_blocks.specs.declared.types.Types.{Types}
use Rattle.efl_reading.specs.Counting.{TakesListed}
use Rattle.efl_reading.proofs.counting.meet_listed.Given as goal

abbrev pub invariant-loop-name : goal.invariant-loop-name
invariant-loop-name l = (y : Types) → TakesListed y l.site l.firsts (texts_of (take l.name-index l.names)) l.initial.storage l.storage
