-- What a unit has added before it was refused stands behind what was there.
use Rattle.deck.specs.Fronts.{Begins}
use Rattle.deck.proofs.FrontLemmas.{begins_on, on_err}
use Rattle.deck.proofs.writer.push_units.Goals as goal

pub returns-in_err-push_unit-clause-begun : goal.returns-in_err-push_unit-clause-begun
returns-in_err-push_unit-clause-begun c =
    on_err (Begins c.args.out.now.items c.push_unit.new.out.items) c.from_residual.result
    (begins_on c.args.out.now.items c.loop-unit.out.items c.push_unit.new.out.items c.loop-unit.invariant.begun c.in_err-push_unit.ensures.begun)
