-- A word's terminal is that of the token, and each number is one.
use Rattle.std.proofs.Common.{rules, ◌∙◌, ap, sym}
use Rattle.efl_parse_table.specs.Words.{kind_terminal, word_terminal}
use Rattle.efl_parse_table.proofs.terminals.terminal_at.Goals as goal

pub returns-in-Word : goal.returns-in-Word
returns-in-Word c = c.word_at.ensures ∙ (ap word_terminal c.as_bytes.ensures ∙ ap kind_terminal (sym c.in-Word.is))

pub returns-in-Number : goal.returns-in-Number
returns-in-Number c = search rules
