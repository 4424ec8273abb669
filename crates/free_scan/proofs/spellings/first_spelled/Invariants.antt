-- No spelling before is at the front of the characters.
use Rattle.std.proofs.Common.{◌≡◌, drop}
use Rattle.std.specs.Prelude.{map}
use Rattle.free_scan.specs.Spellings.{longest_sign, spellings}
use Rattle.free_scan.proofs.spellings.first_spelled.Given as goal

abbrev pub invariant-loop-spelling : goal.invariant-loop-spelling
invariant-loop-spelling l = longest_sign (spellings l.fn.dialect) l.characters ≡ longest_sign (map (λ s. (s.0.now, s.1)) (drop l.spelling-index l.spelling-items)) l.characters
