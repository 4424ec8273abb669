-- A word of another length is not this one.
use Rattle.std.proofs.Common.{◌∙◌, sym, length}
use Rattle.std.proofs.lemmas.Bool.{ne_eqb}
use Rattle.efl_parse_table.proofs.WordLemmas.{unequal}
use Rattle.efl_parse_table.proofs.terminals.is_spelled.Goals as goal

pub returns-else-spelling-word : goal.returns-else-spelling-word
returns-else-spelling-word c =
    let apart = c.if-spelling-word.false in
    ne_eqb (length c.args.spelling.now) (length c.args.word.now) apart ∙ sym (unequal c.args.spelling.now c.args.word.now apart)
