-- Why `breaks_nesting` keeps its clauses.
use Rattle.std.proofs.Common.{◌≡◌, ◌<◌, ℕ, false, subst}
use Rattle.rule_table.specs.declared.rule.Rule.{Rule}
use Rattle.f66_tree.specs.Views.{header_of}
use Rattle.f66_flow.specs.FlowRules.{breaks_flow_at}
use Rattle.f66_flow.specs.Under.{lines_under}
use Rattle.f66_flow.specs.declared.scope.Scope.{Scope}
use Rattle.f66_flow.proofs.EarlierLemmas.{nested_by}
use Rattle.f66_flow.proofs.rows.breaks_nesting.Goals as goal

pub nests_wrong-requires-clause-nested : goal.nests_wrong-requires-clause-nested
nests_wrong-requires-clause-nested c =
    nested_by (header_of c.args.header.now) (lines_under c.args.flow.now) c.args.i
    (subst (λ (w : Scope). (j : ℕ) (k : Rule) → j < c.args.i → breaks_flow_at w (header_of c.args.header.now) (lines_under c.args.flow.now) j k ≡ false) c.in-Whole.is c.requires.earlier)
