-- What holds at each turn of the loops of `last_executable`.
use Rattle.std.proofs.Common.{◌≡◌, take}
use Rattle.rule_table.specs.Words.{last_place}
use Rattle.f66_tree.specs.Views.{act_of}
use Rattle.f66_flow.specs.Acts.{is_executable}
use Rattle.f66_flow.proofs.order.last_executable.Given as goal

abbrev pub invariant-loop-i : goal.invariant-loop-i
invariant-loop-i l = l.last ≡ last_place (λ s. is_executable (act_of s.kind)) (take l.i l.statements)
