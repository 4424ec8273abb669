-- The statement reads, and is not over.
use Rattle.std.proofs.Common.{◌≡◌, false}
use Rattle.f66_tree.specs.declared.editing.Way.TheVariants.{Reading}
use Rattle.f66_tree.specs.Turns.{is_over}
use Rattle.f66_cases.proofs.transfers.take_all.Given as goal

abbrev pub invariant-loop-item : goal.invariant-loop-item
invariant-loop-item l = (l.run.flow.stand.way ≡ Reading) × (is_over l.run.flow.stand.mark ≡ false)
