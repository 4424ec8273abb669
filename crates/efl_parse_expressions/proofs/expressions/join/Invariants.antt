-- What holds at each turn of the loops of `join`.
use Rattle.std.proofs.Common.{◌≡◌, vec_len}
use Rattle.efl_tree.specs.Views.{expr_of}
use Rattle.efl_parse_values.specs.Values.{joins_of}
use Rattle.efl_parse_expressions.specs.Phrases.{joined}
use Rattle.efl_parse_expressions.proofs.expressions.join.Given as goal

abbrev pub invariant-loop-operator : goal.invariant-loop-operator
invariant-loop-operator l = joined (expr_of l.first) (joins_of l.tail.items) ≡ joined (expr_of l.fn.first) (joins_of l.fn.tail.items)

abbrev pub decreases-loop-operator : goal.decreases-loop-operator
decreases-loop-operator l = vec_len l.tail
