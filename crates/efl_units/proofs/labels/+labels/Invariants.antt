-- Each call goes to a smaller part; so far the labels before are added.
use Rattle.std.proofs.Common.{◌≡◌, drop, ◌+◌, ◌*◌}
use Rattle.efl_typed_tree.specs.Views.{stmt_of, stmts_of, clauses_of}
use Rattle.efl_lowered.specs.Labels.{all_labels, clause_labels}
use Rattle.efl_room.proofs.Sizes.{size_of_stmt, size_of_stmts, size_of_clauses}
use Rattle.efl_room.proofs.Rooms.{other_size}
use Rattle.efl_units.specs.Numbered.{adding_all, numbered_of}
use Rattle.efl_units.proofs.labels.+labels.Given as goal

abbrev pub decreases-add_list : goal.decreases-add_list
decreases-add_list l = 3 * size_of_stmts (stmts_of l.list.now) + 1

abbrev pub decreases-add_statement : goal.decreases-add_statement
decreases-add_statement l = 3 * size_of_stmt (stmt_of l.statement.now)

abbrev pub decreases-add_if : goal.decreases-add_if
decreases-add_if l = 3 * (size_of_stmt (stmt_of l.body.now) + other_size l.other.now) + 2

abbrev pub decreases-add_clauses : goal.decreases-add_clauses
decreases-add_clauses l = 3 * size_of_clauses (clauses_of l.list.now) + 2

abbrev pub invariant-add_list-loop-statement : goal.invariant-add_list-loop-statement
invariant-add_list-loop-statement l = adding_all (all_labels (stmts_of (drop l.statement-index l.list))) (numbered_of l.labels) ≡ adding_all (all_labels (stmts_of l.list)) (numbered_of l.initial.labels)

abbrev pub invariant-add_clauses-loop-clause : goal.invariant-add_clauses-loop-clause
invariant-add_clauses-loop-clause l = adding_all (clause_labels (clauses_of (drop l.clause-index l.list))) (numbered_of l.labels) ≡ adding_all (clause_labels (clauses_of l.list)) (numbered_of l.initial.labels)
