-- The value so far, and the digits that are left.
use Rattle.std.proofs.Common.{◌≡◌, ◌≤◌, drop}
use Rattle.stmt_reader.specs.Formats.{value_after}
use Rattle.stmt_faults.proofs.tokens.is_large_value.Given as goal

abbrev pub invariant-loop-c : goal.invariant-loop-c
invariant-loop-c l = (value_after l.value (drop l.c-index l.digits) ≡ value_after 0 l.digits) × (l.value ≤ 21474836725)
