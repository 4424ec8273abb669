-- What holds at each turn of the loops of `first_data`.
use Rattle.std.proofs.Common.{◌≡◌, take, None}
use Rattle.rule_table.specs.Words.{first_place}
use Rattle.f66_tree.specs.Views.{act_of}
use Rattle.f66_flow.specs.Acts.{is_data}
use Rattle.f66_flow.proofs.order.first_data.Given as goal

abbrev pub invariant-loop-i : goal.invariant-loop-i
invariant-loop-i l = first_place (λ s. is_data (act_of s.kind)) (take l.i l.statements) ≡ None
