-- The value of all digits is that of those left, behind the value so far.
use Rattle.std.proofs.Common.{◌≡◌, drop}
use Rattle.free_scan.specs.Lexemes.{value_after}
use Rattle.free_scan.proofs.lexemes.value.Given as goal

abbrev pub invariant-loop-digit : goal.invariant-loop-digit
invariant-loop-digit l = value_after 0 l.digits ≡ value_after l.value (drop l.digit-index l.digits)
