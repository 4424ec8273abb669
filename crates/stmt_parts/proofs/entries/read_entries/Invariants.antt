-- The tokens before led here, and opened no more parentheses than there are of them.
use Rattle.std.proofs.Common.{◌≡◌, ◌≤◌, drop, []}
use Rattle.stmt_reader.specs.Entries.{run, Wants}
use Rattle.stmt_parts.specs.EntryStates.{depth_of, lists_of, state_of}
use Rattle.stmt_parts.proofs.entries.read_entries.Given as goal

abbrev pub invariant-loop-token : goal.invariant-loop-token
invariant-loop-token l = (run (state_of l.stage (lists_of l.lists)) (drop l.token-index l.tokens) ≡ run (Wants (record { here = []; around = [] })) l.tokens) × (depth_of l.stage ≤ l.token-index)
