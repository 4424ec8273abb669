-- The text's size is what is passed, and the size of the text in what is left.
use Rattle.std.proofs.Common.{◌≡◌, ◌+◌, drop}
use Rattle.free_scan.specs.IncludeNames.{text_size}
use Rattle.free_scan.proofs.include_names.text_size.Given as goal

abbrev pub invariant-loop-i : goal.invariant-loop-i
invariant-loop-i l = text_size l.text ≡ l.i + text_size (drop l.i l.text)
