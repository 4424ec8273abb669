-- How deep the functions of fields go, and what their loop keeps.
use Rattle.std.proofs.Common.{◌+◌, ◌*◌}
use Rattle.grammar.specs.declared.language.Symbol.TheVariants.{Nonterminal as nonterminal_symbol}
use Rattle.f66_tree.specs.Fields.{Fields}
use Rattle.rat_parse_table.specs.declared.table.Nonterminal.TheVariants as nonterminals
use Rattle.rat_parse_values.specs.Values.{fields}
use Rattle.rat_descent.specs.Reading.{Reader, Reads}
use Rattle.rat_descent.proofs.FormatLemmas.{rest_at, followed}
use Rattle.rat_descent.proofs.formats.+fields.Given as goal

abbrev pub decreases-listed : goal.decreases-listed
decreases-listed l = 4 * l.room + 3

abbrev pub decreases-edit : goal.decreases-edit
decreases-edit l = 4 * l.room + 2

abbrev pub decreases-counted : goal.decreases-counted
decreases-counted l = 4 * l.room + 1

abbrev pub decreases-enclosed : goal.decreases-enclosed
decreases-enclosed l = 4 * l.room

-- What reads the rest of the list here has read the list from the beginning.
abbrev pub invariant-listed-more : goal.invariant-listed-more
invariant-listed-more l =
    (g : Fields) (s : Reader) → Reads (nonterminal_symbol (rest_at l.position)) l.reader (fields g) s
    → Reads (nonterminal_symbol nonterminals.Fields) l.initial.reader (fields (followed l.list.items g)) s
