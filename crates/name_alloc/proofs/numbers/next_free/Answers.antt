-- Why `next_free` keeps its clauses.
use Rattle.std.proofs.Common.{◌≡◌, sym, ◌∙◌, arith, ◌-◌, ◌+◌, suc}
use Rattle.name_alloc.proofs.Free.{free_next, above-taken}
use Rattle.name_alloc.proofs.numbers.next_free.Goals as goal

pub loop-preserved : goal.loop-preserved
loop-preserved c =
    let e : c.len-end.result - c.loop.counter ≡ suc (c.len-end.result - (c.loop.counter + 1)) = omega arith in
    let passed = sym c.contains.ensures ∙ c.if-not-contains.false in
    record {
      same = sym (free_next (c.len-end.result - c.loop.counter) (c.len-end.result - (c.loop.counter + 1)) c.args.taken.now c.loop.number e passed) ∙ c.loop.invariant.same;
      low = omega (arith, above-taken c.loop.number c.args.taken.now passed);
    }
