-- The parentheses open behind all tokens are those behind the tokens left, and no more than one a token.
use Rattle.std.proofs.Common.{◌≡◌, ◌+◌, ◌≤◌, drop}
use Rattle.free_scan.specs.Tokens.{open_after_all}
use Rattle.free_scan.proofs.scanner.open_after_all.Given as goal

abbrev pub invariant-loop-token : goal.invariant-loop-token
invariant-loop-token l = (open_after_all l.opened l.tokens ≡ open_after_all l.count (drop l.token-index l.tokens)) × (l.count ≤ l.opened + l.token-index)
