-- What is passed is blank.
use Rattle.std.proofs.Common.{◌≡◌, drop}
use Rattle.free_scan.specs.Lines.{has_no_more}
use Rattle.free_scan.proofs.lines.has_no_more.Given as goal

abbrev pub invariant-loop-i : goal.invariant-loop-i
invariant-loop-i l = has_no_more l.rest ≡ has_no_more (drop l.i l.rest)
