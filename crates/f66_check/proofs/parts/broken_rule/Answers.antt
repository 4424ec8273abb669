-- Why `broken_rule` keeps its clauses.
use Rattle.std.proofs.Common.{◌∙◌, sym, ap}
use Rattle.f66_tree.specs.Views.{line_of, act_of}
use Rattle.rule_table.specs.FaultRules.{first_rule, lesser}
use Rattle.f66_names.specs.DeclarationViews.{context_in, acts_in}
use Rattle.unit_rules.specs.UnitRules.{breaks_rule}
use Rattle.f66_flow.specs.FlowRules.{breaks_flow}
use Rattle.f66_flow.specs.Under.{lines_under}
use Rattle.rule_table.proofs.LesserLemmas.{first_either}
use Rattle.f66_check.proofs.parts.broken_rule.Goals as goal

pub returns : goal.returns
returns c =
    let names = c.args.names.now.declarations in
    c.lesser.ensures ∙ ap (λ o. lesser o c.in_ok-by_name.by_name) c.broken_rule-by_flow.ensures
    ∙ ap (lesser (first_rule (breaks_flow c.args.scope (context_in names).header (lines_under c.args.flow.now) c.args.i (line_of c.args.statement.now)))) c.in_ok-by_name.ensures
    ∙ sym (first_either (breaks_flow c.args.scope (context_in names).header (lines_under c.args.flow.now) c.args.i (line_of c.args.statement.now))
    (breaks_rule (context_in names) (acts_in names) c.args.i (act_of c.args.statement.now.kind)))
