-- Of FORTRAN's rules and limit 9 the lesser rule is the first one of both together.
use Rattle.std.proofs.Common.{◌∙◌, sym, ap}
use Rattle.rule_table.specs.FaultRules.{first_rule, lesser}
use Rattle.rule_table.proofs.LesserLemmas.{first_either}
use Rattle.f66_names.specs.DeclarationViews.{context_in}
use Rattle.unit_rules.specs.Heads.{breaks_header}
use Rattle.rat_check.specs.Rules.{breaks_length}
use Rattle.rat_check.proofs.rules.unit_header_rule.Goals as goal

pub returns : goal.returns
returns c =
    let d = c.args.declarations.now in
    let length = breaks_length (context_in d).header in
    c.lesser.ensures ∙ ap (λ o. lesser o c.length_rule-of_length.result) c.in_ok-of_fortran.ensures
    ∙ ap (lesser (first_rule (breaks_header (context_in d)))) c.length_rule-of_length.ensures
    ∙ sym (first_either (breaks_header (context_in d)) length)
