-- What the loop over declarations keeps.
use Rattle.std.proofs.Common.{List, map}
use Rattle.f66_tree.specs.Syntax.{Declared}
use Rattle.f66_tree.specs.Views.{declared_of}
use Rattle.rat_parse_table.specs.declared.table.Nonterminal.TheVariants as nonterminals
use Rattle.rat_parse_values.specs.Parts.{as_declareds}
use Rattle.rat_descent.specs.Reading.{Reader, Lengthens}
use Rattle.rat_descent.proofs.declarations.declared_list.Given as goal

abbrev pub invariant-more : goal.invariant-more
invariant-more l =
    (all : List Declared) (s : Reader) → Lengthens nonterminals.DeclaredMore as_declareds l.reader (map declared_of l.list.items) all s
    → Lengthens nonterminals.DeclaredMore as_declareds l.initial.reader (map declared_of l.initial.list.items) all s
