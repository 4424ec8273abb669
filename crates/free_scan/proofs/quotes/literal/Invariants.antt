-- The text of the literal is the text so far, and that of the bytes that are left.
use Rattle.std.proofs.Common.{◌≡◌, ◌++◌, drop, false}
use Rattle.free_scan.specs.Quotes.{literal}
use Rattle.free_scan.proofs.quotes.literal.Given as goal

abbrev pub invariant-loop-byte : goal.invariant-loop-byte
invariant-loop-byte l = literal l.dialect false l.inside ≡ l.text.items ++ literal l.dialect l.taken (drop l.byte-index l.inside)
