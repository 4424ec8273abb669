-- The search of an entry: what the entries still to come have is what all have. tools/grammar_tables.py writes it from efl.grammar.
use Rattle.std.proofs.Common.{◌≡◌, drop}
use denote.Enum.Bare.{sameb}
use Rattle.grammar.specs.Rows.{found}
use Rattle.efl_parse_table.specs.contracts.table.Terminal.{the_type as terminal_type}
use Rattle.efl_parse_table.proofs.parse_table.chosen.Given as goal

abbrev pub invariant-loop-terminal : goal.invariant-loop-terminal
invariant-loop-terminal l =
    found (sameb terminal_type) l.seen l.choices l.other ≡ found (sameb terminal_type) l.seen (drop l.terminal-index l.choices) l.other
