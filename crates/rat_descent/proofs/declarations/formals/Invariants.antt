-- What the loop over names keeps.
use Rattle.std.proofs.Common.{List}
use Rattle.f66_tree.specs.Syntax.{Text}
use Rattle.rat_parse_table.specs.declared.table.Nonterminal.TheVariants as nonterminals
use Rattle.rat_parse_values.specs.Parts.{as_names}
use Rattle.rat_descent.specs.Reading.{Reader, Lengthens}
use Rattle.rat_descent.proofs.declarations.formals.Given as goal

abbrev pub invariant-more : goal.invariant-more
invariant-more l =
    (all : List Text) (s : Reader) → Lengthens nonterminals.FormalMore as_names l.reader l.list.items all s
    → Lengthens nonterminals.FormalMore as_names l.initial.reader l.initial.list.items all s
