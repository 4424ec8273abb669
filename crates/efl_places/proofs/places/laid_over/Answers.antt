-- The structure's type, and what stands before, and whether it may lie there.
use Rattle.std.proofs.Common.{refl, not, ap, ◌∙◌}
use Rattle.efl_scope.specs.Scopes.{structured, shape_named}
use Rattle.efl_types.specs.declared.rule.TypeRule.TheVariants.{TypeClash}
use Rattle.efl_types.specs.Expressions.{when, may_lie, step_faults}
use Rattle.efl_expressions.specs.FirstRule.{first_rule}
use Rattle.efl_places.proofs.RuleLemmas.{overlay_rule}
use Rattle.efl_places.proofs.places.laid_over.Goals as goal

pub returns : goal.returns
returns c = λ f n t rest stands at.
    let u = structured (shape_named n.blocks c.args.name.now) in
    let made = c.structure-structure.ensures f n stands in
    let lies = c.may_lie-lies.ensures f t u stands.apart at made in
    record {
      kind = u;
      made = made;
      type = refl;
      ends = refl;
      rule = overlay_rule c.args.at.now.rule c.lower.result c.rule_if.result (when (not (may_lie t u)) TypeClash) (step_faults n u rest)
          c.lower.ensures (c.rule_if.ensures ∙ ap (λ b. first_rule (when (not b) TypeClash)) lies);
    }
