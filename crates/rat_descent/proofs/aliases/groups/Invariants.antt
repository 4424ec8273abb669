-- What the loop over groups keeps.
use Rattle.std.proofs.Common.{List, map}
use Rattle.f66_tree.specs.Syntax.{Formula}
use Rattle.f66_tree.specs.Views.{formula_of}
use Rattle.rat_parse_table.specs.declared.table.Nonterminal.TheVariants as nonterminals
use Rattle.rat_parse_values.specs.Parts.{as_groups}
use Rattle.rat_descent.specs.Reading.{Reader, Lengthens}
use Rattle.rat_descent.proofs.aliases.groups.Given as goal

abbrev pub invariant-more : goal.invariant-more
invariant-more l =
    (all : List (List Formula)) (s : Reader) → Lengthens nonterminals.AliasMore as_groups l.reader (map (λ g. map formula_of g.items) l.list.items) all s
    → Lengthens nonterminals.AliasMore as_groups l.initial.reader (map (λ g. map formula_of g.items) l.initial.list.items) all s
