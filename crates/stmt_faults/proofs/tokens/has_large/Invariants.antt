-- None of those before is too large.
use Rattle.std.proofs.Common.{◌≡◌, drop}
use Rattle.std.specs.List.{list_any}
use Rattle.stmt_reader.specs.Faults.{is_large}
use Rattle.stmt_faults.proofs.tokens.has_large.Given as goal

abbrev pub invariant-loop-token : goal.invariant-loop-token
invariant-loop-token l = list_any is_large (drop l.token-index l.tokens) ≡ list_any is_large l.tokens
