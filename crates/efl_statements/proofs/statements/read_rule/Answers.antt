-- The unit, the items, and their widths.
use Rattle.std.proofs.Common.{◌||◌, not, nat_le, map, flat_map, sum_by, ap, ◌∙◌}
use Rattle.std.specs.List.{list_all}
use Rattle.ground.specs.declared.value.Kind.TheVariants.{Integer}
use Rattle.efl_tree.specs.Views.{expr_if_any, read_item_of}
use Rattle.efl_types.specs.declared.rule.TypeRule.TheVariants.{BadFormat}
use Rattle.efl_types.specs.Expressions.{when}
use Rattle.efl_types.specs.Statements.{is_width, value_if, read_width, read_faults}
use Rattle.efl_expressions.specs.FirstRule.{first_rule}
use Rattle.efl_places.proofs.RuleLemmas.{both_are, three_are}
use Rattle.efl_statements.proofs.WidthLemmas.{format_is}
use Rattle.efl_statements.proofs.statements.read_rule.Goals as goal

pub returns : goal.returns
returns c = λ f n stands.
    let items = map read_item_of c.args.list.now in
    let each = list_all (λ i. is_width (read_width i)) items in
    let together = nat_le (sum_by read_width items) 132 in
    let unit = value_if n Integer (expr_if_any c.args.unit.now) in
    let inner = flat_map (read_faults n) items in
    let format = when (not each || not together) BadFormat in
    three_are c.lower.result c.value_if.result c.lower-inner.result unit inner format c.lower.ensures (c.value_if.ensures f n stands)
    (both_are c.lower-inner.result c.taken_rules.result c.rule_if-format.result inner format c.lower-inner.ensures (c.taken_rules.ensures f n stands)
    (c.rule_if-format.ensures ∙ ap (λ b. first_rule (when b BadFormat)) (ap not c.read_fit.ensures ∙ format_is each together)))
