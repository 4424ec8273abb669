-- One bound more is told.
use Rattle.std.proofs.Common.{◌+◌, drop, subst}
use Rattle.efl_scope.proofs.TreeLemmas.{drop_next}
use Rattle.efl_scoped.specs.Seen.{table_of}
use Rattle.efl_scoped.proofs.BoundLemmas.{bound_at, bound_is}
use Rattle.efl_scoped.proofs.WordLemmas.{BoundsLeft, bound_passed}
use Rattle.efl_scoped.proofs.summaries.array_number.Goals as goal

pub loop-bound-preserved : goal.loop-bound-preserved
loop-bound-preserved c =
    let l = c.loop-bound in
    let bs = c.args.bounds.now in
    let f = table_of c.args.numbers.now in
    bound_passed f (table_of l.numbers) (table_of c.with_bound.new.numbers) c.args.element bs (bound_at bs l.bound-index) (drop (l.bound-index + 1) bs) l.number c.in_ok-number-2.number
    (subst (λ xs. BoundsLeft f c.args.element bs (table_of l.numbers) xs l.number) (drop_next bs l.bound-index (bound_at bs l.bound-index) c.loop-bound-test.true (bound_is bs l.bound-index c.loop-bound-test.true)) l.invariant)
    c.in_ok-number-2.ensures
