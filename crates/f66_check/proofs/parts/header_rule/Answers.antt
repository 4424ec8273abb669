-- Why `header_rule` keeps its clauses.
use Rattle.std.proofs.Common.{◌∙◌, sym, ap}
use Rattle.rule_table.specs.FaultRules.{first_rule, lesser}
use Rattle.f66_names.specs.DeclarationViews.{context_in}
use Rattle.unit_rules.specs.Heads.{breaks_header}
use Rattle.f66_flow.specs.FlowRules.{header_breaks_flow}
use Rattle.f66_flow.specs.Under.{lines_under}
use Rattle.rule_table.proofs.LesserLemmas.{first_either}
use Rattle.f66_check.proofs.parts.header_rule.Goals as goal

pub returns : goal.returns
returns c =
    let names = c.args.names.now.declarations in
    let flow = header_breaks_flow c.args.scope (context_in names).header (lines_under c.args.flow.now) in
    c.lesser.ensures ∙ ap (λ o. lesser o c.in_ok-by_name.by_name) c.header_rule-by_flow.ensures
    ∙ ap (lesser (first_rule flow)) c.in_ok-by_name.ensures
    ∙ sym (first_either flow (breaks_header (context_in names)))
