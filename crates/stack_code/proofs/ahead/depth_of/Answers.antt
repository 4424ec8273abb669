-- What lies ahead of the main's entry.
use Rattle.std.proofs.Common.{ap, sym, ◌∙◌, subst}
use Rattle.stack_code.specs.Views.{code_of}
use Rattle.stack_code.specs.Ahead.{IsSwept, ahead_in}
use Rattle.stack_code.proofs.AheadLemmas.{returns_invalid, main_depth, never_returns}
use Rattle.stack_code.proofs.ahead.depth_of.Goals as goal

pub returns-then-main : goal.returns-then-main
returns-then-main c =
    let code = code_of c.args.ops.now in
    let found = c.sweep_all.new.ahead.items in
    let swept = subst (IsSwept code c.args.facts.now found) c.if-not-branch.false c.in_ok-sweep_all.ensures in
    let is = c.first-main.ensures ∙ ap (λ l. ahead_in l 0) c.deref.ensures.value in
    returns_invalid code found swept.0 (sym (ap (λ x. x.returns) is) ∙ c.if-main.true)

pub returns : goal.returns
returns c =
    let code = code_of c.args.ops.now in
    let found = c.sweep_all.new.ahead.items in
    let swept = subst (IsSwept code c.args.facts.now found) c.if-not-branch.false c.in_ok-sweep_all.ensures in
    let is = c.first-main.ensures ∙ ap (λ l. ahead_in l 0) c.deref.ensures.value in (
      main_depth code c.args.facts.now c.requires.all found swept.0 swept.1 c.first-main.result.depth (ap (λ x. x.depth) is),
      never_returns code c.args.facts.now c.requires.all found swept.1 (sym (ap (λ x. x.returns) is) ∙ c.if-main.false),
    )
