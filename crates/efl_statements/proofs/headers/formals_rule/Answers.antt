-- Formal by formal.
use Rattle.std.proofs.Common.{◌+◌, ◌∷◌, [], drop, refl, sym, ap, ◌∙◌}
use Rattle.std.proofs.lemmas.List.{drop_all}
use Rattle.efl_scope.proofs.TreeLemmas.{drop_next}
use Rattle.efl_expressions.specs.FirstRule.{or_lower}
use Rattle.efl_places.proofs.RuleLemmas.{passed, ended}
use Rattle.efl_statements.proofs.HeaderLemmas.{asked, asked_next}
use Rattle.efl_statements.proofs.headers.formals_rule.Goals as goal

pub loop-formal-init : goal.loop-formal-init
loop-formal-init c = λ f ss rules vs are names. refl

pub loop-formal-preserved : goal.loop-formal-preserved
loop-formal-preserved c = λ f ss rules vs are names.
    let l = c.loop-formal in
    let list = c.args.formals.now in
    let x = c.formal-item.result in
    let rest = drop (l.formal-index + 1) list in
    passed l.rule c.lower-rule.result c.formal_rule-own.result (asked rules vs (drop l.formal-index list)) (asked rules vs rest) (asked rules vs list)
    (ap (asked rules vs) (drop_next list l.formal-index x c.loop-formal-test.true c.formal-item.is) ∙ asked_next rules vs x rest
    ∙ ap (λ o. or_lower o (asked rules vs rest)) (sym (c.formal_rule-own.ensures f ss rules vs are names ∙ ap (λ n. asked rules vs (n ∷ [])) c.as_bytes.ensures)))
    c.lower-rule.ensures (l.invariant f ss rules vs are names)

pub returns : goal.returns
returns c = λ f ss rules vs are names.
    let l = c.loop-formal in
    let list = c.args.formals.now in
    ended l.rule (asked rules vs (drop l.formal-index list)) (asked rules vs list) (ap (asked rules vs) (drop_all l.formal-index list c.loop-formal-test.false)) (l.invariant f ss rules vs are names)
