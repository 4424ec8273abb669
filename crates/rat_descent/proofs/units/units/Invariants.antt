-- What the units so far are to a text.
use Rattle.std.proofs.Common.{List, map}
use Rattle.rat_tree.specs.Syntax.{RatRoutine}
use Rattle.rat_tree.specs.Views.{rat_routine_of}
use Rattle.rat_parse_table.specs.declared.table.Nonterminal.TheVariants as nonterminals
use Rattle.rat_parse_values.specs.Parts.{as_units}
use Rattle.rat_descent.specs.Reading.{Reader, Lengthens}
use Rattle.rat_descent.proofs.units.units.Given as goal

-- What reads the rest of the units reads them all, with the units so far in front.
abbrev pub invariant-more : goal.invariant-more
invariant-more l =
    (all : List RatRoutine) (s : Reader) → Lengthens nonterminals.Units as_units l.reader (map rat_routine_of l.list.items) all s
    → Lengthens nonterminals.Units as_units l.initial.reader (map rat_routine_of l.initial.list.items) all s
