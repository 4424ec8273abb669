-- Only words of its length can be this word.
use Rattle.std.proofs.Common.{◌∙◌, sym, ap}
use Rattle.rat_parse_table.specs.Words.{reserved, terminal_in}
use Rattle.rat_parse_table.proofs.WordLemmas.{of_its_length}
use Rattle.rat_parse_table.proofs.terminals.reserved_at.Goals as goal

pub loop-spelling-init : goal.loop-spelling-init
loop-spelling-init c = sym (of_its_length reserved c.args.word.now) ∙ ap (λ ws. terminal_in ws c.args.word.now) (sym c.words_of-spelling-items.ensures)
