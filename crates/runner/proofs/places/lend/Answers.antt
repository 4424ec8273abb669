-- A value is lent.
use Rattle.std.proofs.Common.{refl}
use Rattle.runner.proofs.PlaceArms.{lend_tall, lend_works}
use Rattle.runner.proofs.places.lend.Goals as goal

pub word_at-word-requires-clause-some : goal.word_at-word-requires-clause-some
word_at-word-requires-clause-some c = lend_tall c.args.unit c.args.stack.now c.args.top c.args.cells.now c.requires.hold

pub returns-clause-works : goal.returns-clause-works
returns-clause-works c = λ plans s w st a fine. lend_works c.args.unit _ _ _ _ _ c.args.cells.now _ c.word_at-word.ensures c.push.ensures (search Rattle.std.proofs.Common.rules) refl c.keep_word.ensures plans s w st a fine
