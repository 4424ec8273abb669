-- What reads the rest of the lines reads them all.
use Rattle.grammar.specs.declared.language.Symbol.TheVariants.{Nonterminal as nonterminal_symbol}
use Rattle.rat_parse_table.specs.declared.table.Nonterminal.TheVariants as nonterminals
use Rattle.rat_parse_values.specs.Values.{Val}
use Rattle.rat_descent.specs.Reading.{Reader, Reads}
use Rattle.rat_descent.proofs.statements.lines.Given as goal

abbrev pub invariant-more : goal.invariant-more
invariant-more l =
    (v : Val) (s : Reader) → Reads (nonterminal_symbol nonterminals.Lines) l.reader v s → Reads (nonterminal_symbol nonterminals.Lines) l.initial.reader v s
