-- The line from the start is what was read, and then the line from here.
use Rattle.std.proofs.Common.{◌-◌, length}
use Rattle.free_scan.proofs.LineLemmas.{IsRead}
use Rattle.free_scan.proofs.lines.read_line.Given as goal

abbrev pub invariant-loop-at : goal.invariant-loop-at
invariant-loop-at l = IsRead l.dialect l.text l.start l.number l.at l.line l.characters.items

abbrev pub decreases-loop-at : goal.decreases-loop-at
decreases-loop-at l = length l.text - l.at
