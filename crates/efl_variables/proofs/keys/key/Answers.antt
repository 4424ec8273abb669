-- The variable has the number of the last pair.
use Rattle.efl_scoped.specs.Seen.{table_of}
use Rattle.efl_variables.proofs.KeyLemmas.{key_made}
use Rattle.efl_variables.proofs.keys.key.Goals as goal

pub returns : goal.returns
returns c =
    key_made (table_of c.args.numbers.now) (table_of c.number.new.self) (table_of c.name_number.new.numbers) (table_of c.number-2.new.self) c.args.unit c.args.home c.args.name.now
    c.in_ok-block.block c.in_ok-word.word c.in_ok-block.ensures.kept c.in_ok-block.ensures.numbered c.in_ok-word.ensures c.number-2.result c.number-2.ensures.numbered c.number-2.ensures.kept
