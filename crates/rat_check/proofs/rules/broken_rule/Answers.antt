-- Of both tables the lesser rule is the first one of both together.
use Rattle.std.proofs.Common.{◌∙◌, sym, ap}
use Rattle.rule_table.specs.FaultRules.{first_rule, lesser}
use Rattle.rule_table.proofs.LesserLemmas.{first_either}
use Rattle.f66_names.specs.DeclarationViews.{context_in, acts_in}
use Rattle.rat_check.specs.Said.{said_by}
use Rattle.rat_check.specs.Rules.{breaks_own, break_names}
use Rattle.rat_check.specs.PartViews.{part_of, before_of}
use Rattle.rat_check.specs.Survey.{is_among}
use Rattle.rat_check.proofs.rules.broken_rule.Goals as goal

pub returns : goal.returns
returns c =
    let d = c.args.names.now.declarations in
    let v = part_of c.args.part.now in
    let own = breaks_own (context_in d).header (is_among c.args.formats.now) (before_of c.args.before.now) v in
    let said = break_names (context_in d) (acts_in d) c.args.before.now.said in
    c.lesser.ensures ∙ ap (λ o. lesser o c.in_ok-by_names.by_names) c.own_rule-own.ensures
    ∙ ap (lesser (first_rule own)) (c.in_ok-by_names.ensures ∙ ap (λ acts. first_rule (said acts)) c.requires.said)
    ∙ sym (first_either own (said (said_by (context_in d).header v.form)))
