-- The search of an entry: what the entries still to come have is what all have. tools/grammar_tables.py writes it from outline.grammar.
use Rattle.std.proofs.Common.{◌≡◌, drop}
use denote.Enum.Bare.{sameb}
use Rattle.grammar.specs.Rows.{found}
use Rattle.grammar_example.specs.contracts.table.Terminal.{the_type as terminal_type}
use Rattle.grammar_example.proofs.parse_table.chosen.Given as goal

abbrev pub invariant-loop-terminal : goal.invariant-loop-terminal
invariant-loop-terminal l =
    found (sameb terminal_type) l.seen l.choices l.other ≡ found (sameb terminal_type) l.seen (drop l.terminal-index l.choices) l.other
