-- Units of an accepted text are sound and link.
use Rattle.eft_cases.proofs.counts.counted.Goals as goal

pub counted_of-requires : goal.counted_of-requires
counted_of-requires c =
    let program = c.in-Ok.ensures.text.gives.2 in
    record { sound = program.sound; well = program.linked.well; whole = program.linked.whole }
