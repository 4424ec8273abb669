-- The member's type, and what stands before, the member, and what its subscripts break.
use Rattle.std.proofs.Common.{refl, not, ap, subst, ◌∙◌}
use Rattle.efl_types.specs.declared.rule.TypeRule.TheVariants.{TypeClash}
use Rattle.efl_types.specs.Signatures.{many}
use Rattle.efl_types.specs.Types.{subscripted, member_type}
use Rattle.efl_types.specs.Expressions.{when, has_member, subscript_faults, faults_of_all, step_faults}
use Rattle.efl_expressions.specs.FirstRule.{first_rule}
use Rattle.efl_expressions.specs.TypeViews.{IsType}
use Rattle.efl_places.specs.Checks.{steps_end}
use Rattle.efl_places.proofs.RuleLemmas.{step_rule}
use Rattle.efl_places.proofs.ListLemmas.{some_many}
use Rattle.efl_places.proofs.places.entered.Goals as goal

pub returns : goal.returns
returns c = λ f n t x es rest at made count inner.
    let ss = c.args.structures.now.list.items in
    let m = member_type x t in
    let here = c.has_member-is_there.ensures x t (c.form.ensures f ss t at) (c.form-2.ensures f ss m made) in
    record {
      kind = subscripted m (many es);
      made = subst (λ k. IsType f ss (subscripted m k) c.subscripted.result) count (c.subscripted.ensures f m made);
      type = refl;
      ends = ap (λ b. steps_end b rest) (some_many es c.args.count count);
      rule = step_rule c.args.at.now.rule c.lower-2.result c.lower.result c.rule_if-clash.result c.args.inner (when (not (has_member x t)) TypeClash) (subscript_faults n m es) (faults_of_all n es) (step_faults n (subscripted m (many es)) rest)
          c.lower-2.ensures c.lower.ensures (c.rule_if-clash.ensures ∙ ap (λ b. first_rule (when (not b) TypeClash)) here) inner;
    }
