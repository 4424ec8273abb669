-- Where the place was found, the values are counted from there on.
use Rattle.std.proofs.Common.{sym, ◌∙◌}
use Rattle.efl_initial_values.proofs.CountLemmas.{no_overflow, overflow_is}
use Rattle.efl_initial_values.proofs.presets.are_too_many.Goals as goal

pub returns-in-None : goal.returns-in-None
returns-in-None c = λ t n o is few counted found. no_overflow t n o (sym c.in-None.is ∙ found)

pub returns-in-Some : goal.returns-in-Some
returns-in-Some c = λ t n o is few counted found. overflow_is t n c.args.places c.args.values c.in-Some.offset c.add.result o is few counted (sym c.in-Some.is ∙ found) c.add.ensures
