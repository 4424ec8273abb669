-- One more was looked at.
use Rattle.std.proofs.Common.{◌≡◌, ◌+◌, ◌-◌, arith, sym, subst}
use Rattle.stack_code.specs.Views.{code_of}
use Rattle.stack_code.specs.Ahead.{AllHold, IsLook, SeenFrom}
use Rattle.stack_code.proofs.AheadLemmas.{seen_settled}
use Rattle.stack_code.proofs.ahead.sweep.Goals as goal

pub loop-at-preserved-in-Settled : goal.loop-at-preserved-in-Settled
loop-at-preserved-in-Settled c =
    let code = code_of c.args.ops.now in
    let facts = c.args.facts.now in
    let a = c.args.ahead.now.items in
    let b = c.loop-at.ahead.items in
    let d = c.look_ahead.new.ahead.items in
    let at = c.loop-at.at - 1 in
    let e : c.loop-at.at ≡ at + 1 = omega (arith, c.loop-at-test.true) in
    let t = subst (IsLook code facts b d at) c.in-Settled.is c.in_ok-look_ahead.ensures in
    (subst (AllHold code) (sym t.0) c.loop-at.invariant.0, seen_settled code facts a b d at c.loop-at.higher (subst (λ n. SeenFrom code facts a b n c.loop-at.higher) e c.loop-at.invariant.1) t)
