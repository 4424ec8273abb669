-- What a unit says that its rules accept is ready.
use Rattle.std.proofs.Common.{sym, subst}
use Rattle.f66_program.specs.Association.{IsBadUnit}
use Rattle.storage_assoc.specs.Naming.{IsReady}
use Rattle.rat_tree.specs.Views.{rat_routine_of}
use Rattle.rat_link.proofs.ReadyLemmas.{said_is_ready}
use Rattle.rat_link.proofs.checking.check_said.Goals as goal

pub check_association-requires : goal.check_association-requires
check_association-requires c = record { ready = subst IsReady (sym c.in_ok-said.ensures) (said_is_ready (rat_routine_of c.args.unit.now) c.requires.clean) }

pub returns-clause-well : goal.returns-clause-well
returns-clause-well c = subst (λ r. ¬ IsBadUnit r) c.in_ok-said.ensures c.in_ok-check_association.ensures.well
