-- How deep the functions of statements go, and what their loops keep.
use Rattle.std.proofs.Common.{◌+◌, ◌*◌, List, map}
use Rattle.grammar.specs.declared.language.Symbol.TheVariants.{Nonterminal as nonterminal_symbol}
use Rattle.f66_tree.specs.Syntax.{Formula}
use Rattle.f66_tree.specs.Views.{formula_of}
use Rattle.rat_tree.specs.Syntax.{Commands, Clauses}
use Rattle.rat_parse_table.specs.declared.table.Nonterminal.TheVariants as nonterminals
use Rattle.rat_parse_values.specs.Values.{Val}
use Rattle.rat_parse_values.specs.Parts.{as_exprs}
use Rattle.rat_descent.specs.Reading.{Reader, Reads, Lengthens}
use Rattle.rat_descent.proofs.StatementLists.{Statements, Clauses_from}
use Rattle.rat_descent.proofs.statements.+statement.Given as goal

abbrev pub decreases-item : goal.decreases-item
decreases-item l = 32 * l.room + 20

abbrev pub decreases-bare : goal.decreases-bare
decreases-bare l = 32 * l.room + 19

abbrev pub decreases-untyped : goal.decreases-untyped
decreases-untyped l = 32 * l.room + 18

abbrev pub decreases-block : goal.decreases-block
decreases-block l = 32 * l.room + 16

abbrev pub decreases-conditional : goal.decreases-conditional
decreases-conditional l = 32 * l.room + 16

abbrev pub decreases-while_loop : goal.decreases-while_loop
decreases-while_loop l = 32 * l.room + 16

abbrev pub decreases-for_loop : goal.decreases-for_loop
decreases-for_loop l = 32 * l.room + 16

abbrev pub decreases-repeat_loop : goal.decreases-repeat_loop
decreases-repeat_loop l = 32 * l.room + 16

abbrev pub decreases-do_loop : goal.decreases-do_loop
decreases-do_loop l = 32 * l.room + 16

abbrev pub decreases-switch : goal.decreases-switch
decreases-switch l = 32 * l.room + 16

abbrev pub decreases-else_part : goal.decreases-else_part
decreases-else_part l = 32 * l.room + 10

abbrev pub decreases-clauses : goal.decreases-clauses
decreases-clauses l = 32 * l.room + 9

abbrev pub decreases-clause : goal.decreases-clause
decreases-clause l = 32 * l.room + 8

abbrev pub decreases-case : goal.decreases-case
decreases-case l = 32 * l.room + 7

abbrev pub decreases-statement : goal.decreases-statement
decreases-statement l = 32 * l.room + 1

abbrev pub decreases-statements : goal.decreases-statements
decreases-statements l = 32 * l.room + 1

-- What reads the part behind line ends reads it with them.
abbrev pub invariant-statement-more : goal.invariant-statement-more
invariant-statement-more l =
    (v : Val) (s : Reader) → Reads (nonterminal_symbol nonterminals.Statement) l.reader v s → Reads (nonterminal_symbol nonterminals.Statement) l.initial.reader v s

abbrev pub invariant-else_part-more : goal.invariant-else_part-more
invariant-else_part-more l =
    (v : Val) (s : Reader) → Reads (nonterminal_symbol nonterminals.ElsePart) l.reader v s → Reads (nonterminal_symbol nonterminals.ElsePart) l.initial.reader v s

-- What reads the rest behind the items so far reads it behind those at the beginning.
abbrev pub invariant-statements-more : goal.invariant-statements-more
invariant-statements-more l = (all : Commands) (s : Reader) → Statements l.list.items l.reader all s → Statements l.initial.list.items l.initial.reader all s

abbrev pub invariant-clauses-more : goal.invariant-clauses-more
invariant-clauses-more l = (all : Clauses) (s : Reader) → Clauses_from l.list.items l.reader all s → Clauses_from l.initial.list.items l.initial.reader all s

abbrev pub invariant-case-more : goal.invariant-case-more
invariant-case-more l =
    (all : List Formula) (s : Reader) → Lengthens nonterminals.ExprMore as_exprs l.reader (map formula_of l.tests.items) all s
    → Lengthens nonterminals.ExprMore as_exprs l.initial.reader (map formula_of l.initial.tests.items) all s
