-- No spelling before is this word.
use Rattle.std.proofs.Common.{◌≡◌, drop}
use Rattle.std.specs.Prelude.{map}
use Rattle.efl_parse_table.specs.Words.{reserved, terminal_in}
use Rattle.efl_parse_table.proofs.terminals.reserved_at.Given as goal

abbrev pub invariant-loop-spelling : goal.invariant-loop-spelling
invariant-loop-spelling l = terminal_in reserved l.word ≡ terminal_in (map (λ w. (w.0.now, w.1)) (drop l.spelling-index l.spelling-items)) l.word
