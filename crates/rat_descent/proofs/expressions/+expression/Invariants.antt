-- How deep the functions of expressions go, and what their loops keep.
use Rattle.std.proofs.Common.{◌+◌, ◌*◌, List, map}
use Rattle.f66_tree.specs.Syntax.{Formula}
use Rattle.f66_tree.specs.Views.{formula_of}
use Rattle.rat_parse_table.specs.declared.table.Nonterminal.TheVariants as nonterminals
use Rattle.rat_parse_values.specs.Parts.{as_exprs}
use Rattle.rat_descent.specs.Reading.{Reader, Joins, Lengthens}
use Rattle.rat_descent.proofs.expressions.+expression.Given as goal

abbrev pub decreases-expression : goal.decreases-expression
decreases-expression l = 12 * l.room + 11

abbrev pub decreases-conjunction : goal.decreases-conjunction
decreases-conjunction l = 12 * l.room + 10

abbrev pub decreases-negation : goal.decreases-negation
decreases-negation l = 12 * l.room + 9

abbrev pub decreases-relational : goal.decreases-relational
decreases-relational l = 12 * l.room + 8

abbrev pub decreases-sum : goal.decreases-sum
decreases-sum l = 12 * l.room + 7

abbrev pub decreases-first_term : goal.decreases-first_term
decreases-first_term l = 12 * l.room + 6

abbrev pub decreases-term : goal.decreases-term
decreases-term l = 12 * l.room + 5

abbrev pub decreases-factor : goal.decreases-factor
decreases-factor l = 12 * l.room + 4

abbrev pub decreases-prime : goal.decreases-prime
decreases-prime l = 12 * l.room + 3

abbrev pub decreases-read_reference : goal.decreases-read_reference
decreases-read_reference l = 12 * l.room + 2

abbrev pub decreases-group : goal.decreases-group
decreases-group l = 12 * l.room + 1

abbrev pub decreases-subscripts : goal.decreases-subscripts
decreases-subscripts l = 12 * l.room

-- What joins the operands so far to an expression joins those at the beginning to it.
abbrev pub invariant-expression-more : goal.invariant-expression-more
invariant-expression-more l =
    (f : Formula) (s : Reader) → Joins nonterminals.OrTail l.reader (formula_of l.e) f s → Joins nonterminals.OrTail l.initial.reader (formula_of l.initial.e) f s

abbrev pub invariant-conjunction-more : goal.invariant-conjunction-more
invariant-conjunction-more l =
    (f : Formula) (s : Reader) → Joins nonterminals.AndTail l.reader (formula_of l.e) f s → Joins nonterminals.AndTail l.initial.reader (formula_of l.initial.e) f s

abbrev pub invariant-sum-more : goal.invariant-sum-more
invariant-sum-more l =
    (f : Formula) (s : Reader) → Joins nonterminals.SumTail l.reader (formula_of l.e) f s → Joins nonterminals.SumTail l.initial.reader (formula_of l.initial.e) f s

abbrev pub invariant-term-more : goal.invariant-term-more
invariant-term-more l =
    (f : Formula) (s : Reader) → Joins nonterminals.TermTail l.reader (formula_of l.e) f s → Joins nonterminals.TermTail l.initial.reader (formula_of l.initial.e) f s

abbrev pub invariant-subscripts-more : goal.invariant-subscripts-more
invariant-subscripts-more l =
    (all : List Formula) (s : Reader) → Lengthens nonterminals.ExprMore as_exprs l.reader (map formula_of l.list.items) all s
    → Lengthens nonterminals.ExprMore as_exprs l.initial.reader (map formula_of l.initial.list.items) all s
