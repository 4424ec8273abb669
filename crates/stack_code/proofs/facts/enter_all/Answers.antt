-- One more entry knows what holds there.
use Rattle.std.proofs.Common.{subst}
use Rattle.stack_code.specs.Views.{code_of}
use Rattle.stack_code.specs.ValidCode.{root}
use Rattle.stack_code.specs.Facts.{IsEnteredAt}
use Rattle.stack_code.proofs.FactsLemmas.{passes_more, calls_more}
use Rattle.stack_code.proofs.facts.enter_all.Goals as goal

-- src/facts.rt:222:5
pub loop-at-preserved : goal.loop-at-preserved
loop-at-preserved c =
    let code = code_of c.args.ops.now in
    let a = c.args.facts.now.items in
    let b = c.loop-at.facts.items in
    let d = c.enter_at.new.facts.items in
    let at = c.loop-at.at in
    let inv = c.loop-at.invariant in
    let t = subst (IsEnteredAt code b d at) c.if-not-branch.false c.in_ok-enter_at.ensures in
    (passes_more code a b d inv.0 t.0.grows t.0.reached, t.0.grows.keeps 0 (root 0) inv.1, calls_more code b d at t.0 inv.2 t.1)
