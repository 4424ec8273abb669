-- The names before are met.
use Rattle.std.proofs.Common.{take}
use Rattle.efl_storage.specs.Named.{texts_of}
use Rattle.efl_storage.specs.Parts.{TakesNames}
use Rattle.efl_storage.proofs.met.meet_names.Given as goal

abbrev pub invariant-loop-name : goal.invariant-loop-name
invariant-loop-name l = TakesNames l.sight (texts_of (take l.name-index l.names)) l.initial.storage l.storage
