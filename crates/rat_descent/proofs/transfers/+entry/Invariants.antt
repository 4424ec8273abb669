-- How deep the functions of entries go, and what their loop keeps.
use Rattle.std.proofs.Common.{◌++◌, ◌+◌, ◌*◌, map}
use Rattle.grammar.specs.declared.language.Symbol.TheVariants.{Nonterminal as nonterminal_symbol}
use Rattle.f66_tree.specs.Syntax.{Many}
use Rattle.f66_tree.specs.Views.{entry_of, listed}
use Rattle.rat_parse_table.specs.declared.table.Nonterminal.TheVariants as nonterminals
use Rattle.rat_parse_values.specs.Kinds.{LoopRest}
use Rattle.rat_parse_values.specs.Values.{entry, rest}
use Rattle.rat_descent.specs.Reading.{Reader, Reads}
use Rattle.rat_descent.proofs.transfers.+entry.Given as goal

abbrev pub decreases-entry : goal.decreases-entry
decreases-entry l = 2 * l.room + 1

abbrev pub decreases-looped : goal.decreases-looped
decreases-looped l = 2 * l.room

-- What reads the rest of the loop here has read the loop from its parenthesis.
abbrev pub invariant-looped-more : goal.invariant-looped-more
invariant-looped-more l =
    (v : LoopRest) (s : Reader) → Reads (nonterminal_symbol nonterminals.LoopRest) l.reader (rest v) s
    → Reads (nonterminal_symbol nonterminals.Loop) l.fn.reader
    (entry (Many (listed (map entry_of l.list.items ++ v.list)) v.variable v.range.first v.range.last v.range.step)) s
