-- One more was looked at.
use Rattle.std.proofs.Common.{◌+◌, subst, sym}
use Rattle.stack_code.specs.Views.{code_of}
use Rattle.stack_code.specs.Facts.{IsSpread, Progress}
use Rattle.stack_code.proofs.FactsLemmas.{passes_more, progress_settled, progress_earlier}
use Rattle.stack_code.proofs.facts.pass.Goals as goal
use Rattle.stack_code.proofs.facts.pass.Goals.{in-Settled, in-Earlier}

pub loop-pc-preserved : goal.loop-pc-preserved
loop-pc-preserved c =
    let code = code_of c.args.ops.now in
    let a = c.args.facts.now.items in
    let b = c.loop-pc.facts.items in
    let d = c.look_at.new.facts.items in
    let pc = c.loop-pc.pc in
    elim c.match-branch-2.branch [
      | in-Settled w ↦
          let t = subst (IsSpread code b d pc) w.in-Settled.is c.in_ok-look_at.ensures in (
            passes_more code a b d c.loop-pc.invariant.0 t.0.grows t.0.reached,
            subst (Progress code a d (pc + 1)) (sym w.earlier-is) (progress_settled code a b d pc c.loop-pc.earlier c.loop-pc.invariant.1 t.0 t.1),
          )
      | in-Earlier w ↦
          let t = subst (IsSpread code b d pc) w.in-Earlier.is c.in_ok-look_at.ensures in (
            passes_more code a b d c.loop-pc.invariant.0 t.0.grows t.0.reached,
            subst (Progress code a d (pc + 1)) (sym w.earlier-is) (progress_earlier code a b d pc c.loop-pc.invariant.0.grows t.1),
          )
    ]
