-- What the loop over names keeps.
use Rattle.std.proofs.Common.{List, map}
use Rattle.f66_tree.specs.Syntax.{Formula}
use Rattle.f66_tree.specs.Views.{formula_of}
use Rattle.rat_parse_table.specs.declared.table.Nonterminal.TheVariants as nonterminals
use Rattle.rat_parse_values.specs.Parts.{as_exprs}
use Rattle.rat_descent.specs.Reading.{Reader, Lengthens}
use Rattle.rat_descent.proofs.aliases.group.Given as goal

abbrev pub invariant-more : goal.invariant-more
invariant-more l =
    (all : List Formula) (s : Reader) → Lengthens nonterminals.RefMore as_exprs l.reader (map formula_of l.list.items) all s
    → Lengthens nonterminals.RefMore as_exprs l.initial.reader (map formula_of l.initial.list.items) all s
