-- What the loop over values keeps.
use Rattle.std.proofs.Common.{ℕ, List, map}
use Rattle.f66_tree.specs.Syntax.{Formula}
use Rattle.f66_tree.specs.Views.{initial_of}
use Rattle.rat_parse_table.specs.declared.table.Nonterminal.TheVariants as nonterminals
use Rattle.rat_parse_values.specs.Parts.{as_data}
use Rattle.rat_descent.specs.Reading.{Reader, Lengthens}
use Rattle.rat_descent.proofs.aliases.values.Given as goal

abbrev pub invariant-more : goal.invariant-more
invariant-more l =
    (all : List (ℕ × Formula)) (s : Reader) → Lengthens nonterminals.DatumMore as_data l.reader (map initial_of l.list.items) all s
    → Lengthens nonterminals.DatumMore as_data l.initial.reader (map initial_of l.initial.list.items) all s
