-- The name's size is what is passed, and the size of the name in what is left.
use Rattle.std.proofs.Common.{◌≡◌, ◌+◌, drop, None}
use Rattle.free_scan.specs.IncludeNames.{name_size}
use Rattle.free_scan.proofs.include_names.name_size.Given as goal

abbrev pub invariant-loop-i : goal.invariant-loop-i
invariant-loop-i l = name_size None l.rest ≡ l.i + name_size l.opened (drop l.i l.rest)
