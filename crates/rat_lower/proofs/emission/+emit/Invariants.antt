-- Each call goes to a smaller part; so far the statements and the clauses before are emitted.
use Rattle.std.proofs.Common.{◌≡◌, ◌+◌, ◌*◌, ◌≤◌, length}
use Rattle.std.specs.Vec.Iter.{into_iter_items, into_iter_len}
use Rattle.f66_tree.specs.Views.{lines_of}
use Rattle.rat_tree.specs.Views.{command, commands, clauses}
use Rattle.rat_lower.specs.Around.{rings_of}
use Rattle.rat_lower.proofs.Emitting.Blocks.{SoFar}
use Rattle.rat_lower.proofs.Emitting.Members.{ClausesSoFar}
use Rattle.rat_lower.proofs.Emitting.Sizes.{size_of, size_of_all, size_of_clauses}
use Rattle.rat_lower.proofs.emission.+emit.Given as goal

abbrev pub decreases-emit : goal.decreases-emit
decreases-emit l = 2 * size_of (command l.statement)

abbrev pub decreases-emit_all : goal.decreases-emit_all
decreases-emit_all l = 2 * size_of_all (commands l.list.items) + 1

abbrev pub decreases-emit_if : goal.decreases-emit_if
decreases-emit_if l = 2 * size_of (command l.body) + 1

abbrev pub decreases-emit_either : goal.decreases-emit_either
decreases-emit_either l = 2 * (size_of (command l.body) + size_of (command l.other)) + 1

abbrev pub decreases-emit_loop : goal.decreases-emit_loop
decreases-emit_loop l = 2 * size_of (command l.body) + 1

abbrev pub decreases-emit_until : goal.decreases-emit_until
decreases-emit_until l = 2 * size_of (command l.body) + 1

abbrev pub decreases-emit_do : goal.decreases-emit_do
decreases-emit_do l = 2 * size_of (command l.body) + 1

abbrev pub decreases-emit_switch : goal.decreases-emit_switch
decreases-emit_switch l = 2 * size_of_clauses (clauses l.list.items) + 2

abbrev pub decreases-emit_clauses : goal.decreases-emit_clauses
decreases-emit_clauses l = 2 * size_of_clauses (clauses l.list.items) + 1

abbrev pub invariant-emit_all-loop-statement : goal.invariant-emit_all-loop-statement
invariant-emit_all-loop-statement l = record {
  long : into_iter_len l.statement-iterator ≡ length (into_iter_items l.statement-iterator);
  size : size_of_all (commands (into_iter_items l.statement-iterator)) ≤ size_of_all (commands l.fn.list.items);
  so_far : SoFar (commands l.fn.list.items) (commands (into_iter_items l.statement-iterator)) (rings_of l.around) l.initial.maker l.maker (lines_of l.initial.code.items) (lines_of l.code.items);
}

abbrev pub invariant-emit_clauses-loop-clause : goal.invariant-emit_clauses-loop-clause
invariant-emit_clauses-loop-clause l = record {
  long : into_iter_len l.clause-iterator ≡ length (into_iter_items l.clause-iterator);
  size : size_of_clauses (clauses (into_iter_items l.clause-iterator)) ≤ size_of_clauses (clauses l.fn.list.items);
  so_far :
      ClausesSoFar (clauses l.fn.list.items) (clauses (into_iter_items l.clause-iterator)) l.behind (rings_of l.around) l.default l.initial.maker l.maker (lines_of l.initial.code.items) (lines_of l.code.items) (lines_of l.initial.bodies.items)
      (lines_of l.bodies.items);
}
