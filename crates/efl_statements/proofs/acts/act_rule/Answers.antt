-- A call, or what a value breaks.
use Rattle.std.proofs.Common.{sym, ap, ◌∙◌}
use Rattle.efl_tree.specs.Syntax as efl
use Rattle.efl_tree.specs.Views.{exprs_of}
use Rattle.efl_types.specs.Statements.{act_faults}
use Rattle.efl_expressions.specs.FirstRule.{first_rule}
use Rattle.efl_places.proofs.ExprLemmas.{call_is}
use Rattle.efl_statements.proofs.ActLemmas.{no_call}
use Rattle.efl_statements.proofs.acts.act_rule.Goals as goal

pub returns-in-Call : goal.returns-in-Call
returns-in-Call c = λ f n stands.
    c.invoke_rule.ensures f n stands
    ∙ ap (λ x. first_rule (act_faults n x))
    (ap (λ x. efl.Call x (exprs_of c.deref.result.now)) c.as_bytes.ensures ∙ call_is c.args.e.now c.in-Call.name c.in-Call.list c.deref.result.now c.in-Call.is c.deref.ensures.value)

pub returns-in-Int : goal.returns-in-Int
returns-in-Int c = λ f n stands.
    sym (c.check.ensures f n stands).rule ∙ sym (ap first_rule (no_call n c.args.e.now c.in-Int.is))
