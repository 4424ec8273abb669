-- By what it is.
use Rattle.std.proofs.Common.{◌++◌, not, map, sym, ap, ◌∙◌}
use Rattle.ground.specs.declared.value.Kind.TheVariants.{Integer}
use Rattle.efl_tree.specs.Syntax as efl
use Rattle.efl_tree.specs.Views.{expr_of, expr_if_any, write_item_of, read_item_of}
use Rattle.efl_types.specs.declared.rule.TypeRule.TheVariants.{TypeClash}
use Rattle.efl_types.specs.Signatures.{variable_type}
use Rattle.efl_types.specs.Types.{fits}
use Rattle.efl_types.specs.Expressions.{when, variable_faults}
use Rattle.efl_types.specs.Statements.{value_faults, value_if, statement_faults}
use Rattle.efl_expressions.specs.FirstRule.{first_rule}
use Rattle.efl_places.proofs.RuleLemmas.{four_are}
use Rattle.efl_statements.proofs.KindLemmas.{breaks, if_is, while_is, for_is, switch_is, plain_is}
use Rattle.efl_statements.proofs.statements.statement_rule.Goals as goal

pub returns-in-Act : goal.returns-in-Act
returns-in-Act c = λ f n stands. c.act_rule.ensures f n stands ∙ sym (ap (λ a. first_rule (breaks n a)) c.in-Act.is)

pub returns-in-If : goal.returns-in-If
returns-in-If c = λ f n stands. c.check_value.ensures f n stands ∙ sym (ap first_rule (if_is n c.args.kind.now c.in-If.e _ _ c.in-If.is))

pub returns-in-While : goal.returns-in-While
returns-in-While c = λ f n stands. c.check_value-in-While.ensures f n stands ∙ sym (ap first_rule (while_is n c.args.kind.now c.in-While.e _ c.in-While.is))

pub returns-in-For : goal.returns-in-For
returns-in-For c = λ f n stands.
    c.for_rule.ensures f n stands ∙ sym (ap first_rule (for_is n c.args.kind.now c.in-For.first c.in-For.test c.in-For.step _ c.in-For.is))

pub returns-in-Do : goal.returns-in-Do
returns-in-Do c = λ f n stands.
    let x = c.as_bytes.result.now in
    let counter = when (not (fits Integer (variable_type n x))) TypeClash ++ variable_faults n x in
    let one = value_faults n Integer (expr_of c.in-Do.first) in
    let two = value_faults n Integer (expr_of c.in-Do.last) in
    let three = value_if n Integer (expr_if_any c.in-Do.step) in
    four_are c.lower.result c.counter_rule.result c.range_rule-range.result counter one two three c.lower.ensures (c.counter_rule.ensures f n stands) (c.range_rule-range.ensures f n stands)
    ∙ ap (λ y. first_rule (when (not (fits Integer (variable_type n y))) TypeClash ++ variable_faults n y ++ one ++ two ++ three)) c.as_bytes.ensures
    ∙ sym (ap (λ a. first_rule (breaks n a)) c.in-Do.is)

pub returns-in-Switch : goal.returns-in-Switch
returns-in-Switch c = λ f n stands. c.check_value-in-Switch.ensures f n stands ∙ sym (ap first_rule (switch_is n c.args.kind.now c.in-Switch.e _ c.in-Switch.is))

pub returns-in-Return : goal.returns-in-Return
returns-in-Return c = λ f n stands. c.return_rule.ensures f n stands ∙ sym (ap (λ a. first_rule (breaks n a)) c.in-Return.is)

pub returns-in-Write : goal.returns-in-Write
returns-in-Write c = λ f n stands.
    c.write_rule.ensures f n stands
    ∙ ap (λ xs. first_rule (statement_faults n (efl.Write (expr_if_any c.in-Write.unit) (map write_item_of xs)))) c.deref.ensures.value
    ∙ sym (ap (λ a. first_rule (breaks n a)) c.in-Write.is)

pub returns-in-Read : goal.returns-in-Read
returns-in-Read c = λ f n stands.
    c.read_rule.ensures f n stands
    ∙ ap (λ xs. first_rule (statement_faults n (efl.Read (expr_if_any c.in-Read.unit) (map read_item_of xs)))) c.deref-in-Read.ensures.value
    ∙ sym (ap (λ a. first_rule (breaks n a)) c.in-Read.is)

pub returns-in-Empty : goal.returns-in-Empty
returns-in-Empty c = λ f n stands. sym (ap first_rule (plain_is n c.args.kind.now c.in-Empty.is))
