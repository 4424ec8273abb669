-- Where it isn't declared its letter counts.
use Rattle.std.proofs.Common.{sym, ◌∙◌}
use Rattle.efl_statements.proofs.HeaderLemmas.{formal_by, asked_declared, asked_implicit}
use Rattle.efl_statements.proofs.headers.formal_rule.Goals as goal

pub returns-then-is_declared : goal.returns-then-is_declared
returns-then-is_declared c = λ f ss rules vs are names. sym (asked_declared rules vs c.args.name.now (sym (names c.args.name.now) ∙ sym c.is_declared.ensures ∙ c.if-is_declared.true))

pub returns : goal.returns
returns c = λ f ss rules vs are names.
    let x = c.args.name.now in
    c.implicit_rule.ensures f ss (formal_by rules x) (c.implicit.ensures f ss rules are)
    ∙ sym (asked_implicit rules vs x (sym (names x) ∙ sym c.is_declared.ensures ∙ c.if-is_declared.false))
