-- The last byte that isn't blank is that of the first so many characters.
use Rattle.std.proofs.Common.{◌≡◌, ◌≤◌, None, length, take}
use Rattle.free_scan.specs.Lines.{last_byte}
use Rattle.free_scan.proofs.scanner.last_byte.Given as goal

abbrev pub invariant-loop-count : goal.invariant-loop-count
invariant-loop-count l = (last_byte None l.characters ≡ last_byte None (take l.count l.characters)) × (l.count ≤ length l.characters)

abbrev pub decreases-loop-count : goal.decreases-loop-count
decreases-loop-count l = l.count
