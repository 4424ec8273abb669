-- The end comes in the place of a nearer one.
use Rattle.std.proofs.Common.{sym}
use Rattle.efl_initial_values.proofs.FillLemmas.{comes_new}
use Rattle.efl_initial_values.proofs.fills.Fills.note.Goals as goal

pub returns : goal.returns
returns c = comes_new c.args.self.now.ends c.insert.new.self c.args.owner c.args.first c.args.end (sym c.if-has_longer.ensures) c.in_ok-insert.ensures.updates.0
