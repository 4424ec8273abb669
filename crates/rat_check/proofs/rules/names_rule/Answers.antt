-- One saying more.
use Rattle.std.proofs.Common.{◌≡◌, ◌+◌, drop, sym, ap, ◌∙◌, arith, drop_of_length-le}
use Rattle.rule_table.specs.FaultRules.{first_rule, lesser}
use Rattle.rule_table.proofs.LesserLemmas.{lesser-none}
use Rattle.f66_names.specs.ActViews.{acts_of}
use Rattle.f66_names.specs.DeclarationViews.{context_in, acts_in}
use Rattle.rat_check.specs.Rules.{break_names}
use Rattle.rat_check.proofs.RuleLemmas.{rules_on}
use Rattle.rat_check.proofs.rules.names_rule.Goals as goal

pub loop-i-init : goal.loop-i-init
loop-i-init c =
    let d = c.args.names.now.declarations in
    let e : c.args.n + 0 ≡ c.args.n = omega arith in
    ap (λ m. first_rule (break_names (context_in d) (acts_in d) m (acts_of c.args.sayings.now))) e

pub loop-i-preserved : goal.loop-i-preserved
loop-i-preserved c =
    let l = c.loop-i in
    let d = c.args.names.now.declarations in
    let sayings = c.args.sayings.now in
    ap (λ o. lesser o (first_rule (break_names (context_in d) (acts_in d) (c.args.n + (l.i + 1)) (acts_of (drop (l.i + 1) sayings))))) c.lesser-broken.ensures
    ∙ rules_on (context_in d) (acts_in d) c.args.n sayings l.i _ l.broken c.in_ok-rule.rule c.loop-i-test.true c.index-sayings-i.is c.in_ok-rule.ensures ∙ l.invariant

pub returns : goal.returns
returns c =
    let l = c.loop-i in
    let d = c.args.names.now.declarations in
    let sayings = c.args.sayings.now in
    sym (lesser-none l.broken)
    ∙ ap (λ xs. lesser l.broken (first_rule (break_names (context_in d) (acts_in d) (c.args.n + l.i) (acts_of xs)))) (sym (drop_of_length-le sayings {i = l.i} c.loop-i-test.false))
    ∙ l.invariant
