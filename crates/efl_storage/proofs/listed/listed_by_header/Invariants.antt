-- The formals before are listed.
use Rattle.std.proofs.Common.{◌≡◌, take}
use Rattle.efl_storage.specs.Named.{texts_of}
use Rattle.efl_storage.proofs.listed.listed_by_header.Given as goal

abbrev pub invariant-loop-formal : goal.invariant-loop-formal
invariant-loop-formal l = texts_of l.names.items ≡ take l.formal-index l.formals
