-- One rule after the other.
use Rattle.std.proofs.Common.{◌++◌, nat_eq, not, ◌||◌, is_none, sum_by, sym, ap, ◌∙◌}
use Rattle.std.specs.List.{list_any}
use Rattle.efl_types.specs.declared.rule.TypeRule.TheVariants.{WrongCount, BadConstant, NotAssignable}
use Rattle.efl_types.specs.Expressions.{when}
use Rattle.efl_types.specs.Presets.{overflows, misfit, kinds_from}
use Rattle.efl_expressions.specs.FirstRule.{first_rule}
use Rattle.efl_initial_values.proofs.PresetLemmas.{lower_more}
use Rattle.efl_initial_values.proofs.presets.values_rule.Goals as goal

pub returns : goal.returns
returns c = λ f t p o rs one two found place.
    let cs = c.args.values.now in
    let n = sum_by (λ v. v.0) cs in
    let large = c.overflows.ensures f c.args.structures.now.list.items t n o one c.count_values.ensures found in
    let bad = c.has_bad_value.ensures f t p o one two found in
    let barred = c.is_barred.ensures o found in
    let more = when (overflows t n o) WrongCount in
    let valued = when (list_any (λ v. nat_eq v.0 0) cs || misfit (kinds_from o t p) cs) BadConstant in
    let last = when (is_none o || not c.args.may_begin) NotAssignable in
    let first = lower_more rs more c.args.before _ _ place (c.rule_if-many.ensures ∙ ap (λ b. first_rule (when b WrongCount)) large) c.lower-counted.ensures in
    let second = lower_more (rs ++ more) valued _ _ _ first (c.rule_if-bad.ensures ∙ ap (λ b. first_rule (when b BadConstant)) bad) c.lower-valued.ensures in
    sym (lower_more (rs ++ more ++ valued) last _ _ _ second (c.rule_if-barred.ensures ∙ ap (λ b. first_rule (when b NotAssignable)) barred) c.lower.ensures)
