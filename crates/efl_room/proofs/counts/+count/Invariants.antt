-- Each call goes to a smaller part; those before are counted.
use Rattle.std.proofs.Common.{◌≡◌, drop, ◌+◌, ◌*◌}
use Rattle.efl_routes.specs.Expressions.{made_in, made_for}
use Rattle.efl_typed_tree.specs.Views.{expr_of, exprs_of}
use Rattle.efl_room.proofs.Sizes.{size_of, size_of_all}
use Rattle.efl_room.proofs.counts.+count.Given as goal

abbrev pub decreases-made : goal.decreases-made
decreases-made l = 2 * size_of (expr_of l.e.now)

abbrev pub decreases-made_in : goal.decreases-made_in
decreases-made_in l = 2 * size_of_all (exprs_of l.list.now) + 1

abbrev pub decreases-made_for : goal.decreases-made_for
decreases-made_for l = 2 * size_of_all (exprs_of l.list.now) + 1

abbrev pub invariant-made_in-loop-e : goal.invariant-made_in-loop-e
invariant-made_in-loop-e l = l.count + made_in (exprs_of (drop l.e-index l.list)) ≡ made_in (exprs_of l.list)

abbrev pub invariant-made_for-loop-e : goal.invariant-made_for-loop-e
invariant-made_for-loop-e l = l.count + made_for (exprs_of (drop l.e-index l.list)) ≡ made_for (exprs_of l.list)
