-- Seats of the links number the storage units.
use Rattle.std.proofs.Common.{◌∙◌}
use Rattle.storage_assoc.proofs.BridgeLemmas.{bad_links, bad_ties}
use Rattle.storage_assoc.proofs.NumberingLemmas.{are_units}
use Rattle.f66_program.specs.Association.{ties_of}
use Rattle.storage_assoc.proofs.units.number_units.Goals as goal

pub returns-in_default-clause-numbered : goal.returns-in_default-clause-numbered
returns-in_default-clause-numbered c = λ ties rows index a.
    bad_ties ties c.args.links.now rows index c.args.blocks a (rw c.in_default.is at c.in_ok-seats.ensures)

pub returns-clause-numbered : goal.returns-clause-numbered
returns-clause-numbered c = λ rs rows index find a z.
    let v = rw c.in-Some.is at c.in_ok-seats.ensures in
    let n = rw c.deref.ensures.value at c.in_ok-numbers.ensures in (
      are_units rs c.args.links.now rows index c.args.blocks find c.in-Some.seats.items c.args.sizes.now c.in_ok-numbers.numbers.firsts.items c.in_ok-numbers.numbers.total a z (v.0 ∙ z.many) v.1 n,
      (λ b. v.2 (bad_links (ties_of rs) c.args.links.now rows index c.args.blocks a b)),
    )
