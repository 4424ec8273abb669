-- The kinds from the place on, or those of the place.
use Rattle.std.proofs.Common.{sym, ◌∙◌}
use Rattle.efl_initial_values.proofs.CountLemmas.{kinds_none, kinds_some}
use Rattle.efl_initial_values.proofs.presets.misfits_from.Goals as goal

pub returns-in-None : goal.returns-in-None
returns-in-None c = λ f t p o one two found. c.misfits_if_small.ensures f p two ∙ kinds_none t p c.args.values.now o (sym c.in-None.is ∙ found)

pub returns-in-Some : goal.returns-in-Some
returns-in-Some c = λ f t p o one two found. c.misfits_if_small-in-Some.ensures f t one ∙ kinds_some t p c.args.values.now o c.in-Some.offset (sym c.in-Some.is ∙ found)
