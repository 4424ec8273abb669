-- What the loop over areas keeps.
use Rattle.std.proofs.Common.{List, map}
use Rattle.f66_tree.specs.Syntax.{Area}
use Rattle.f66_tree.specs.Views.{area_of}
use Rattle.rat_parse_table.specs.declared.table.Nonterminal.TheVariants as nonterminals
use Rattle.rat_parse_values.specs.Parts.{as_areas}
use Rattle.rat_descent.specs.Reading.{Reader, Lengthens}
use Rattle.rat_descent.proofs.declarations.areas.Given as goal

abbrev pub invariant-more : goal.invariant-more
invariant-more l =
    (all : List Area) (s : Reader) → Lengthens nonterminals.AreaMore as_areas l.reader (map area_of l.list.items) all s
    → Lengthens nonterminals.AreaMore as_areas l.initial.reader (map area_of l.initial.list.items) all s
