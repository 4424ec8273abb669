-- Each call goes to a smaller part; so far the expressions before are emitted.
use Rattle.std.proofs.Common.{drop, ◌+◌, ◌*◌}
use Rattle.efl_typed_tree.specs.Views.{expr_of, exprs_of}
use Rattle.efl_emit.specs.Names.{emission_of}
use Rattle.efl_emit.proofs.Lists.{AllSoFar, ActualsSoFar}
use Rattle.efl_room.proofs.Sizes.{size_of, size_of_all}
use Rattle.efl_emit.proofs.expressions.+emit.Given as goal

abbrev pub decreases-emit_expression : goal.decreases-emit_expression
decreases-emit_expression l = 4 * size_of (expr_of l.e.now)

abbrev pub decreases-emit_group : goal.decreases-emit_group
decreases-emit_group l = 4 * size_of (expr_of l.a.now) + 1

abbrev pub decreases-emit_plus : goal.decreases-emit_plus
decreases-emit_plus l = 4 * size_of (expr_of l.a.now) + 1

abbrev pub decreases-emit_minus : goal.decreases-emit_minus
decreases-emit_minus l = 4 * size_of (expr_of l.a.now) + 1

abbrev pub decreases-emit_not : goal.decreases-emit_not
decreases-emit_not l = 4 * size_of (expr_of l.a.now) + 1

abbrev pub decreases-emit_pair : goal.decreases-emit_pair
decreases-emit_pair l = 4 * (size_of (expr_of l.a.now) + size_of (expr_of l.b.now)) + 4

abbrev pub decreases-emit_store : goal.decreases-emit_store
decreases-emit_store l = 4 * size_of (expr_of l.a.now) + 1

abbrev pub decreases-emit_change : goal.decreases-emit_change
decreases-emit_change l = 4 * size_of (expr_of l.a.now) + 4

abbrev pub decreases-emit_combined : goal.decreases-emit_combined
decreases-emit_combined l = 4 * size_of (expr_of l.right.now) + 3

abbrev pub decreases-emit_plain : goal.decreases-emit_plain
decreases-emit_plain l = 4 * size_of (expr_of l.right.now) + 1

abbrev pub decreases-emit_sequential : goal.decreases-emit_sequential
decreases-emit_sequential l = 4 * size_of (expr_of l.right.now) + 2

abbrev pub decreases-emit_last : goal.decreases-emit_last
decreases-emit_last l = 4 * size_of (expr_of l.right.now) + 1

abbrev pub decreases-emit_call : goal.decreases-emit_call
decreases-emit_call l = 4 * size_of_all (exprs_of l.list.now) + 3

abbrev pub decreases-emit_known : goal.decreases-emit_known
decreases-emit_known l = 4 * size_of_all (exprs_of l.list.now) + 3

abbrev pub decreases-emit_all : goal.decreases-emit_all
decreases-emit_all l = 4 * size_of_all (exprs_of l.list.now) + 1

abbrev pub decreases-emit_actuals : goal.decreases-emit_actuals
decreases-emit_actuals l = 4 * size_of_all (exprs_of l.list.now) + 2

abbrev pub decreases-emit_actual : goal.decreases-emit_actual
decreases-emit_actual l = 4 * size_of (expr_of l.e.now) + 1

abbrev pub invariant-emit_all-loop-e : goal.invariant-emit_all-loop-e
invariant-emit_all-loop-e l =
    AllSoFar l.naming l.place (exprs_of l.list) (exprs_of (drop l.e-index l.list)) l.number l.next l.values.items (emission_of l.initial.out) (emission_of l.out)

abbrev pub invariant-emit_actuals-loop-e : goal.invariant-emit_actuals-loop-e
invariant-emit_actuals-loop-e l =
    ActualsSoFar l.naming l.place (exprs_of l.list) (exprs_of (drop l.e-index l.list)) l.number l.next l.actuals.items (emission_of l.initial.out) (emission_of l.out)
