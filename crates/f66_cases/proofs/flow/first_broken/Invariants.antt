-- What holds at each turn of the loops of `first_broken`.
use Rattle.std.proofs.Common.{◌≡◌, ◌<◌, ℕ, false}
use Rattle.rule_table.specs.declared.rule.Rule.{Rule}
use Rattle.f66_tree.specs.Views.{header_of}
use Rattle.f66_flow.specs.FlowRules.{breaks_flow_at}
use Rattle.f66_flow.specs.Under.{lines_under}
use Rattle.f66_cases.proofs.flow.first_broken.Given as goal

abbrev pub invariant-loop-i : goal.invariant-loop-i
invariant-loop-i l = (j : ℕ) (k : Rule) → j < l.i → breaks_flow_at l.scope (header_of l.header) (lines_under l.flow) j k ≡ false
