-- The parentheses were not too deep before.
use Rattle.std.proofs.Common.{◌≡◌, ◌≤◌, drop}
use Rattle.stmt_reader.specs.Faults.{is_too_deep}
use Rattle.stmt_faults.proofs.tokens.is_too_deep.Given as goal

abbrev pub invariant-loop-token : goal.invariant-loop-token
invariant-loop-token l = is_too_deep l.opened (drop l.token-index l.tokens) ≡ is_too_deep 0 l.tokens
