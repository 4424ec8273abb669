-- The names before are copied.
use Rattle.std.proofs.Common.{◌≡◌, take}
use Rattle.rat_said.proofs.said.copy_names.Given as goal

abbrev pub invariant-loop-name : goal.invariant-loop-name
invariant-loop-name l = l.copies.items ≡ take l.name-index l.names
