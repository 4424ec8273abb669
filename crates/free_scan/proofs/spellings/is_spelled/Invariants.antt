-- What is passed of the spelling stands there.
use Rattle.std.proofs.Common.{◌≡◌, ◌≤◌, length, drop}
use Rattle.free_scan.specs.Spellings.{is_spelled}
use Rattle.free_scan.proofs.spellings.is_spelled.Given as goal

abbrev pub invariant-loop-i : goal.invariant-loop-i
invariant-loop-i l = (is_spelled l.spelling l.characters ≡ is_spelled (drop l.i l.spelling) (drop l.i l.characters)) × (l.i ≤ length l.characters)
