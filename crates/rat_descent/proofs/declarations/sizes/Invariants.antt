-- What the loop over dimensions keeps.
use Rattle.std.proofs.Common.{List, map}
use Rattle.f66_tree.specs.Syntax.{Par}
use Rattle.f66_tree.specs.Views.{par_of}
use Rattle.rat_parse_table.specs.declared.table.Nonterminal.TheVariants as nonterminals
use Rattle.rat_parse_values.specs.Parts.{as_pars}
use Rattle.rat_descent.specs.Reading.{Reader, Lengthens}
use Rattle.rat_descent.proofs.declarations.sizes.Given as goal

abbrev pub invariant-more : goal.invariant-more
invariant-more l =
    (all : List Par) (s : Reader) → Lengthens nonterminals.ParMore as_pars l.reader (map par_of l.list.items) all s
    → Lengthens nonterminals.ParMore as_pars l.initial.reader (map par_of l.initial.list.items) all s
