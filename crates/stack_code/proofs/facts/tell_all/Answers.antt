-- One more was told.
use Rattle.std.proofs.Common.{◌≡◌, arith, subst, sym, slice_get, get_or, Some}
use Rattle.std.proofs.lemmas.Option.{slice_get-get_or}
use Rattle.stack_code.specs.Views.{code_of}
use Rattle.stack_code.specs.Facts.{IsTold, Changed}
use Rattle.stack_code.proofs.FactsLemmas.{telling_more, changed_settled, changed_earlier}
use Rattle.stack_code.proofs.facts.tell_all.Goals as goal
use Rattle.stack_code.proofs.facts.tell_all.Goals.{in-Settled, in-Earlier}

-- src/facts.rt:92:5
pub loop-to-preserved : goal.loop-to-preserved
loop-to-preserved c =
    let code = code_of c.args.ops.now in
    let a = c.args.facts.now.items in
    let b = c.loop-to.facts.items in
    let d = c.tell.new.facts.items in
    let n = c.loop-to.to-index in
    let f = c.args.behind.now in
    let to = get_or c.args.ways.now n 0 in
    let here : slice_get c.args.ways.now n ≡ Some to = slice_get-get_or c.args.ways.now n 0 (omega (arith, c.loop-to-test.true)) in
    elim c.match-branch-2.branch [
      | in-Settled w ↦
          let t = subst (IsTold code b d c.args.pc to f) w.in-Settled.is c.in_ok-tell.ensures in (
            telling_more code a b d c.args.ways.now n to f c.loop-to.invariant.0 t.0 here,
            subst (Changed c.args.pc a d) (sym w.earlier-is) (changed_settled c.args.pc a b d c.loop-to.earlier t.0.grows c.loop-to.invariant.1 t.1),
          )
      | in-Earlier w ↦
          let t = subst (IsTold code b d c.args.pc to f) w.in-Earlier.is c.in_ok-tell.ensures in (
            telling_more code a b d c.args.ways.now n to f c.loop-to.invariant.0 t.0 here,
            subst (Changed c.args.pc a d) (sym w.earlier-is) (changed_earlier c.args.pc a b d c.loop-to.invariant.0.grows t.1),
          )
    ]
