-- The entries of those that were looked at know what holds there.
use Rattle.std.proofs.Common.{ℕ, ◌<◌}
use Rattle.stack_code.specs.Views.{code_of}
use Rattle.stack_code.specs.ValidCode.{root}
use Rattle.stack_code.specs.Facts.{Passes, Known, CallsKnown}
use Rattle.stack_code.proofs.facts.enter_all.Given as goal

abbrev pub invariant-loop-at : goal.invariant-loop-at
invariant-loop-at l = Passes (code_of l.ops) l.fn.facts.items l.facts.items × Known l.facts.items 0 (root 0) × ((at : ℕ) → at < l.at → CallsKnown (code_of l.ops) l.facts.items at)
