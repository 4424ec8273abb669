-- Each call goes to a smaller part; so far the statements before are emitted.
use Rattle.std.proofs.Common.{drop, ◌+◌, ◌*◌}
use Rattle.efl_typed_tree.specs.declared.statement.TypedClause.{out-TypedClause}
use Rattle.efl_typed_tree.specs.Views.{kind_of, stmt_of, stmts_of, clauses_of}
use Rattle.efl_emit.specs.Names.{emission_of, made_of}
use Rattle.efl_emit.specs.Rings.{around_of, behind_of}
use Rattle.efl_emit.specs.Statements.{all_before}
use Rattle.efl_emit.proofs.Emitting.{SoFar}
use Rattle.efl_room.proofs.Sizes.{size_of_stmt, size_of_stmts, size_of_clauses}
use Rattle.efl_emit.proofs.statements.+emit.Given as goal

abbrev pub decreases-emit_statement : goal.decreases-emit_statement
decreases-emit_statement l = 4 * size_of_stmt (stmt_of l.statement.now) + 1

abbrev pub decreases-emit_kind : goal.decreases-emit_kind
decreases-emit_kind l = 4 * size_of_stmt (kind_of l.place l.kind.now)

abbrev pub decreases-emit_list : goal.decreases-emit_list
decreases-emit_list l = 4 * size_of_stmts (stmts_of l.list.now) + 2

abbrev pub decreases-emit_block : goal.decreases-emit_block
decreases-emit_block l = 4 * size_of_stmts (stmts_of l.list.now) + 3

abbrev pub decreases-emit_if : goal.decreases-emit_if
decreases-emit_if l = 4 * size_of_stmt (stmt_of l.body.now) + 2

abbrev pub decreases-emit_first : goal.decreases-emit_first
decreases-emit_first l = 4 * size_of_stmt (stmt_of l.body.now) + 2

abbrev pub decreases-emit_either : goal.decreases-emit_either
decreases-emit_either l = 4 * (size_of_stmt (stmt_of l.body.now) + size_of_stmt (stmt_of l.other.now)) + 3

abbrev pub decreases-emit_turn : goal.decreases-emit_turn
decreases-emit_turn l = 4 * size_of_stmt (stmt_of l.body.now) + 2

abbrev pub decreases-emit_loop : goal.decreases-emit_loop
decreases-emit_loop l = 4 * size_of_stmt (stmt_of l.body.now) + 3

abbrev pub decreases-emit_while : goal.decreases-emit_while
decreases-emit_while l = 4 * size_of_stmt (stmt_of l.body.now) + 4

abbrev pub decreases-emit_for : goal.decreases-emit_for
decreases-emit_for l = 4 * size_of_stmt (stmt_of l.body.now) + 4

abbrev pub decreases-emit_repeat : goal.decreases-emit_repeat
decreases-emit_repeat l = 4 * size_of_stmt (stmt_of l.body.now) + 4

abbrev pub decreases-emit_until : goal.decreases-emit_until
decreases-emit_until l = 4 * size_of_stmt (stmt_of l.body.now) + 4

abbrev pub decreases-emit_do : goal.decreases-emit_do
decreases-emit_do l = 4 * size_of_stmt (stmt_of l.body.now) + 4

abbrev pub decreases-emit_switch : goal.decreases-emit_switch
decreases-emit_switch l = 8 * size_of_clauses (clauses_of l.list.now) + 6

abbrev pub decreases-emit_clauses : goal.decreases-emit_clauses
decreases-emit_clauses l = 4 * (size_of_clauses (clauses_of l.list.now) + size_of_clauses (clauses_of l.all.now)) + 5

abbrev pub decreases-emit_clause : goal.decreases-emit_clause
decreases-emit_clause l = 4 * (size_of_stmts (stmts_of (out-TypedClause l.clause.now).body.items) + size_of_clauses (clauses_of l.others.now) + size_of_clauses (clauses_of l.all.now)) + 8

abbrev pub decreases-emit_tested : goal.decreases-emit_tested
decreases-emit_tested l = 4 * size_of_stmts (stmts_of (out-TypedClause l.clause.now).body.items) + 4

abbrev pub decreases-emit_default : goal.decreases-emit_default
decreases-emit_default l = 4 * size_of_clauses (clauses_of l.list.now) + 4

abbrev pub invariant-emit_list-loop-statement : goal.invariant-emit_list-loop-statement
invariant-emit_list-loop-statement l =
    SoFar (made_of l.naming) (all_before l.naming (stmts_of l.list) (around_of l.rings) l.number) (all_before l.naming (stmts_of (drop l.statement-index l.list)) (around_of l.rings) l.number) (behind_of l.rings) (emission_of l.initial.out) (emission_of l.out)
