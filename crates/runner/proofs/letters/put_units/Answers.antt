-- What went out of the block are the codes of units.
use Rattle.std.proofs.Common.{length, take}
use Rattle.runner.proofs.Lettered.{codes_went}
use Rattle.runner.proofs.letters.put_units.Goals as goal

pub returns-clause-letters : goal.returns-clause-letters
returns-clause-letters c = (
  take c.put_letters.result (take (length c.args.units.now) c.show.new.block),
  c.put_letters.ensures.letters,
  codes_went c.args.units.now (take (length c.args.units.now) c.show.new.block) c.put_letters.result (c.show.ensures.shown c.if-not-show.false),
  c.put_letters.ensures.sent,
)
