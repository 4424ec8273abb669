-- The tokens of the text are those so far, and those that are left.
use Rattle.std.proofs.Common.{◌≡◌, length}
use Rattle.free_scan.specs.Lexemes.{with_tokens}
use Rattle.free_scan.specs.Tokens.{scanned}
use Rattle.free_scan.proofs.text_tokens.scan.Given as goal

abbrev pub invariant-loop-tokens : goal.invariant-loop-tokens
invariant-loop-tokens l = scanned l.fn.dialect l.text l.file ≡ with_tokens l.tokens.items l.scanner

abbrev pub decreases-loop-tokens : goal.decreases-loop-tokens
decreases-loop-tokens l = length l.scanner.tokens
