-- What holds at each turn of the loops of `first_broken`.
use Rattle.std.proofs.Common.{◌≡◌, ◌<◌, ◌+◌, ℕ, false}
use Rattle.rule_table.specs.declared.rule.Rule.{Rule}
use Rattle.f66_names.specs.DeclarationViews.{context_in, acts_in}
use Rattle.f66_flow.specs.Under.{lines_under}
use Rattle.f66_check.specs.UnitChecks.{breaks_piece}
use Rattle.f66_check.proofs.parts.first_broken.Given as goal

abbrev pub invariant-loop-i : goal.invariant-loop-i
invariant-loop-i l = (j : ℕ) (k : Rule) → j < l.i + 1 → breaks_piece l.scope (context_in l.names.declarations) (acts_in l.names.declarations) (lines_under l.flow) j k ≡ false
