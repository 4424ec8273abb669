-- The size of the literal is what is passed, and the size of what is left.
use Rattle.std.proofs.Common.{◌≡◌, drop, false}
use Rattle.free_scan.specs.Quotes.{longer, quoted}
use Rattle.free_scan.proofs.quotes.measure.Given as goal

abbrev pub invariant-loop-i : goal.invariant-loop-i
invariant-loop-i l = quoted l.dialect l.quote false l.rest ≡ longer l.i (quoted l.dialect l.quote l.taken (drop l.i l.rest))
