-- What reads the rest of the list reads it behind the items so far.
use Rattle.std.proofs.Common.{List, ℕ}
use Rattle.rat_parse_table.specs.declared.table.Nonterminal.TheVariants as nonterminals
use Rattle.rat_parse_values.specs.Parts.{as_numbers}
use Rattle.rat_descent.specs.Reading.{Reader, Lengthens}
use Rattle.rat_descent.proofs.plain.computed.Given as goal

abbrev pub invariant-more : goal.invariant-more
invariant-more l =
    (all : List ℕ) (s : Reader) → Lengthens nonterminals.NumberMore as_numbers l.reader l.list.items all s → Lengthens nonterminals.NumberMore as_numbers l.initial.reader l.initial.list.items all s
