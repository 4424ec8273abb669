-- Why `first_broken` keeps its clauses.
use Rattle.std.proofs.Common.{◌≡◌, ◌∙◌, Some, List, refl, sym, ap}
use Rattle.std.specs.List.{slice_get}
use Rattle.std.proofs.lemmas.Option.{slice_get_read}
use Rattle.rule_table.specs.FaultRules.{first_rule}
use Rattle.rule_table.proofs.RuleLemmas.{part_clean}
use Rattle.f66_tree.specs.declared.statement.Stmt.{Stmt}
use Rattle.f66_tree.specs.Views.{header_of}
use Rattle.f66_flow.specs.FlowRules.{breaks_flow_at}
use Rattle.f66_flow.specs.Under.{lines_under}
use Rattle.f66_flow.proofs.EarlierLemmas.{broken_at}
use Rattle.f66_cases.proofs.flow.first_broken.Goals as goal

pub loop-i-preserved : goal.loop-i-preserved
loop-i-preserved c =
    let all : List Stmt = c.args.flow.now.labels.statements.now in
    let at : slice_get all c.loop-i.i ≡ Some c.statement-item.result = slice_get_read all _ c.loop-i.i c.statement-item.result refl c.loop-i-test.true c.statement-item.is in
    part_clean (breaks_flow_at c.args.scope (header_of c.args.header.now) (lines_under c.args.flow.now)) c.loop-i.i
    (sym c.in_default-broken_rule.is ∙ c.broken_rule.ensures ∙ ap first_rule (sym (broken_at c.args.scope (header_of c.args.header.now) all c.loop-i.i c.statement-item.result at))) c.loop-i.invariant
