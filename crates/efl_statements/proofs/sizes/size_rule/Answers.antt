-- How many bounds, which ones, and how large.
use Rattle.std.proofs.Common.{not, nat_lt, ◌&&◌, length, sym, ap, ◌∙◌}
use Rattle.std.specs.List.{list_any}
use Rattle.efl_scope.specs.DataTypes.{is_large}
use Rattle.efl_scope.specs.Scopes.{of_bounds}
use Rattle.efl_types.specs.declared.rule.TypeRule.TheVariants.{WrongCount, BadConstant, LargeVariable}
use Rattle.efl_types.specs.Expressions.{when}
use Rattle.efl_types.specs.Declarations.{is_open, are_bounds}
use Rattle.efl_expressions.specs.FirstRule.{first_rule}
use Rattle.efl_places.proofs.RuleLemmas.{both_are, three_are}
use Rattle.efl_statements.proofs.sizes.size_rule.Goals as goal

pub returns : goal.returns
returns c = λ f t v is told.
    let same = sym is in
    let many = when (nat_lt 7 (length v.bounds)) WrongCount in
    let bad = when (not (are_bounds c.args.is_formal v.bounds)) BadConstant in
    let large = when (not (list_any is_open v.bounds) && is_large (of_bounds t v)) LargeVariable in
    three_are c.lower.result c.rule_if-many.result c.lower-inner.result many bad large c.lower.ensures
    (c.rule_if-many.ensures ∙ ap (λ bs. first_rule (when (nat_lt 7 (length bs)) WrongCount)) same)
    (both_are c.lower-inner.result c.rule_if-bad.result c.rule_if-large.result bad large c.lower-inner.ensures
    (c.rule_if-bad.ensures ∙ ap (λ b. first_rule (when (not b) BadConstant)) (c.are_bounds.ensures ∙ ap (are_bounds c.args.is_formal) same))
    (c.rule_if-large.ensures ∙ ap (λ b. first_rule (when b LargeVariable))
    (c.is_counted-counted.ensures ∙ ap (λ b. not b && c.is_large.result) (c.has_open.ensures ∙ ap (list_any is_open) same) ∙ ap (λ b. not (list_any is_open v.bounds) && b) (c.is_large.ensures f (of_bounds t v) told))))
