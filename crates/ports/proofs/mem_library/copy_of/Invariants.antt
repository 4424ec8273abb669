-- No entry before has this name.
use Rattle.std.proofs.Common.{◌≡◌, drop}
use Rattle.ports.specs.Held.{held_bytes, texts_of}
use Rattle.ports.proofs.mem_library.copy_of.Given as goal

abbrev pub invariant-loop-entry : goal.invariant-loop-entry
invariant-loop-entry l = held_bytes (texts_of (drop l.entry-index l.names.items)) l.name ≡ held_bytes (texts_of l.names.items) l.name
