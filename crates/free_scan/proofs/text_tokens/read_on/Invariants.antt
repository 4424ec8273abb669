-- What was left is the tokens of the line at hand, of which there are none before a further line is read, and what is left behind it.
use Rattle.std.proofs.Common.{◌≡◌}
use Rattle.free_scan.specs.Left.{IsStart, lines_left}
use Rattle.free_scan.specs.Lexemes.{with_tokens}
use Rattle.free_scan.proofs.LeftLemmas.{bytes_left}
use Rattle.free_scan.proofs.text_tokens.read_on.Given as goal

abbrev pub invariant-loop-alloc : goal.invariant-loop-alloc
invariant-loop-alloc l =
    (lines_left l.dialect l.text l.file l.initial.next ≡ with_tokens l.line.items (lines_left l.dialect l.text l.file l.next))
    × IsStart l.text l.next

abbrev pub decreases-loop-alloc : goal.decreases-loop-alloc
decreases-loop-alloc l = bytes_left l.text l.next
