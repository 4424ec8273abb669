-- What a unit says in brief that its rules accept is ready, and has a good association where the unit has.
use Rattle.f66_tree.specs.Views.{routine_of}
use Rattle.rat_tree.specs.Views.{rat_routine_of}
use Rattle.rat_said.specs.Said.{said_routine}
use Rattle.rat_link.proofs.BriefLemmas.{brief_ready, said_well}
use Rattle.rat_link.proofs.ReadyLemmas.{said_is_ready}
use Rattle.rat_link.proofs.checking.check_one.Goals as goal

pub check_association-requires : goal.check_association-requires
check_association-requires c =
    let u = rat_routine_of c.args.unit.now in
    record { ready = brief_ready (said_routine u) (routine_of c.in_ok-brief.brief) c.in_ok-brief.ensures (said_is_ready u c.in_ok-_labels.ensures.fault) }

pub returns-in-Ok-clause-clean : goal.returns-in-Ok-clause-clean
returns-in-Ok-clause-clean c =
    record { rules = c.in_ok-_labels.ensures.fault; well = said_well (said_routine (rat_routine_of c.args.unit.now)) (routine_of c.in_ok-brief.brief) c.in_ok-brief.ensures c.in-Ok.ensures.well }
