-- What holds at each turn of the loops of `one_enters`.
use Rattle.std.proofs.Common.{◌≡◌, false, take}
use Rattle.std.specs.List.{list_any}
use Rattle.f66_flow.specs.FlowRules.{enters}
use Rattle.f66_flow.specs.Under.{lines_under}
use Rattle.f66_flow.proofs.rows.one_enters.Given as goal

abbrev pub invariant-loop-label : goal.invariant-loop-label
invariant-loop-label l = list_any (enters (lines_under l.flow) l.i) (take l.label-index l.all) ≡ false
