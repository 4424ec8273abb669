-- What holds at each turn of the loops of `range_ends`.
use Rattle.std.proofs.Common.{◌≡◌, map, take}
use Rattle.f66_tree.specs.Views.{act_of}
use Rattle.f66_flow.specs.Ranges.{range_end}
use Rattle.f66_flow.specs.Under.{lines_named}
use Rattle.f66_flow.proofs.ranges.range_ends.Given as goal

abbrev pub invariant-loop-statement : goal.invariant-loop-statement
invariant-loop-statement l = l.ends.items ≡ map (λ s. range_end (lines_named l.labels) (act_of s.kind)) (take l.statement-index l.labels.statements.now)
