-- What the loop of `entries` keeps.
use Rattle.std.proofs.Common.{List, map}
use Rattle.f66_tree.specs.Syntax.{Entry}
use Rattle.f66_tree.specs.Views.{entry_of}
use Rattle.rat_parse_table.specs.declared.table.Nonterminal.TheVariants as nonterminals
use Rattle.rat_parse_values.specs.Parts.{as_entries}
use Rattle.rat_descent.specs.Reading.{Reader, Lengthens}
use Rattle.rat_descent.proofs.transfers.entries.Given as goal

abbrev pub invariant-more : goal.invariant-more
invariant-more l =
    (all : List Entry) (s : Reader) → Lengthens nonterminals.EntryMore as_entries l.reader (map entry_of l.list.items) all s
    → Lengthens nonterminals.EntryMore as_entries l.initial.reader (map entry_of l.initial.list.items) all s
