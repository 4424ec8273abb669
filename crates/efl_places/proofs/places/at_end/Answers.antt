-- What the name breaks, a step behind a call, and what the steps break.
use Rattle.std.proofs.Common.{◌≡◌, not, ◌&&◌, sym, ap, ◌∙◌}
use Rattle.efl_types.specs.declared.rule.TypeRule.TheVariants.{TypeClash}
use Rattle.efl_types.specs.Types.{named_type, is_call, ends}
use Rattle.efl_types.specs.Expressions.{when, name_faults, faults_of_all, step_faults}
use Rattle.efl_expressions.specs.FirstRule.{or_lower, first_rule}
use Rattle.efl_places.specs.Checks.{steps_end}
use Rattle.efl_places.proofs.RuleLemmas.{place_rule}
use Rattle.efl_places.proofs.TypedLemmas.{ends_are}
use Rattle.efl_places.proofs.places.at_end.Goals as goal

pub returns : goal.returns
returns c = λ f ss n x es steps name start named call last begun some reached.
    let behind : (is_call n x es && not (ends steps)) ≡ (c.args.is_call && not c.args.is_end) = ap (λ b. b && not (ends steps)) (named.call ∙ call) ∙ ap (λ b. c.args.is_call && not b) last in
    let clash = when (is_call n x es && not (ends steps)) TypeClash in
    let on = step_faults n (named_type n x es) steps in
    record {
      kind = reached.kind;
      call = ap (λ b. b && ends steps) (named.call ∙ call) ∙ ap (λ b. c.args.is_call && b) last ∙ sym c.are_both.ensures;
      ends = ends_are es steps ∙ ap (λ b. steps_end b steps) some ∙ reached.ends;
      rule = place_rule c.lower.result c.rule_if.result c.args.last.rule (name_faults n x es) clash (faults_of_all n es) on c.lower.ensures
          (c.rule_if.ensures ∙ ap (λ b. first_rule (when b TypeClash)) (c.are_both-2.ensures ∙ sym behind))
          (ap (λ r. or_lower r (first_rule on)) (named.rule ∙ sym begun) ∙ reached.rule);
    }
