-- The invariant after a number is taken, and after one that is not.
use Rattle.name_alloc.proofs.Taken.{still_low}
use Rattle.name_alloc.proofs.numbers.Numbers.take.Goals as goal

pub invariant_of-self : goal.invariant_of-self
invariant_of-self c =
    let i = c.self.inside in (
      c.self.invariant.0,
      still_low i.next i.first i.made.items c.args.number i.taken c.insert.new.self c.insert.result c.insert.ensures.inserted c.insert.ensures.kept c.self.invariant.1,
      c.self.invariant.2,
    )
