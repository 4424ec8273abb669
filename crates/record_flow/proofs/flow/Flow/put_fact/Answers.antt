-- A truth value that went out leaves the statement going.
use Rattle.f66_tree.specs.Fields.{NoField}
use Rattle.format_io.specs.Places.{hand_of}
use Rattle.record_flow.proofs.Contents.{truth_out}
use Rattle.record_flow.proofs.flow.Flow.put_fact.Goals as goal

pub returns-clause-going : goal.returns-clause-going
returns-clause-going c = truth_out (hand_of NoField c.self.inside.edit) (hand_of NoField c.put_log.new.self) c.args.holds (c.in_ok-put_log-in-Some-Truth.ensures.hand NoField)
