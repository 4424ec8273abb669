-- Each call goes to a smaller part; so far the most of what comes before is known.
use Rattle.std.proofs.Common.{drop, ◌+◌, ◌*◌}
use Rattle.efl_typed_tree.specs.Views.{stmt_of, stmts_of, clauses_of}
use Rattle.efl_lowered.specs.Needs.{all_need, clauses_need}
use Rattle.efl_room.proofs.Rooms.{SoFar, other_size}
use Rattle.efl_room.proofs.Sizes.{size_of_stmt, size_of_stmts, size_of_clauses}
use Rattle.efl_room.proofs.statements.+needs.Given as goal

abbrev pub decreases-list_needs : goal.decreases-list_needs
decreases-list_needs l = 3 * size_of_stmts (stmts_of l.list.now) + 1

abbrev pub decreases-statement_needs : goal.decreases-statement_needs
decreases-statement_needs l = 3 * size_of_stmt (stmt_of l.statement.now)

abbrev pub decreases-with_value : goal.decreases-with_value
decreases-with_value l = 3 * size_of_stmt (stmt_of l.body.now) + 1

abbrev pub decreases-if_needs : goal.decreases-if_needs
decreases-if_needs l = 3 * (size_of_stmt (stmt_of l.body.now) + other_size l.other.now) + 2

abbrev pub decreases-repeat_needs : goal.decreases-repeat_needs
decreases-repeat_needs l = 3 * size_of_stmt (stmt_of l.body.now) + 2

abbrev pub decreases-either_needs : goal.decreases-either_needs
decreases-either_needs l = 3 * (size_of_stmt (stmt_of l.body.now) + size_of_stmt (stmt_of l.other.now)) + 1

abbrev pub decreases-for_needs : goal.decreases-for_needs
decreases-for_needs l = 3 * size_of_stmt (stmt_of l.body.now) + 1

abbrev pub decreases-do_needs : goal.decreases-do_needs
decreases-do_needs l = 3 * size_of_stmt (stmt_of l.body.now) + 1

abbrev pub decreases-switch_needs : goal.decreases-switch_needs
decreases-switch_needs l = 3 * size_of_clauses (clauses_of l.list.now) + 3

abbrev pub decreases-clauses_need : goal.decreases-clauses_need
decreases-clauses_need l = 3 * size_of_clauses (clauses_of l.list.now) + 2

abbrev pub invariant-list_needs-loop-statement : goal.invariant-list_needs-loop-statement
invariant-list_needs-loop-statement l = SoFar l.number l.most (all_need (stmts_of (drop l.statement-index l.list)) l.number) (all_need (stmts_of l.list) l.number)

abbrev pub invariant-clauses_need-loop-clause : goal.invariant-clauses_need-loop-clause
invariant-clauses_need-loop-clause l = SoFar l.number l.most (clauses_need (clauses_of (drop l.clause-index l.list)) l.number) (clauses_need (clauses_of l.list) l.number)
