-- One statement more, and the end.
use Rattle.std.proofs.Common.{◌+◌, ◌++◌, ℕ, List, drop, ap, refl, ◌∙◌}
use Rattle.f66_tree.specs.Execution.{runnable}
use Rattle.f66_tree.specs.Views.{lines_of}
use Rattle.code_gen.specs.Statements.{body_size, first_code, prologue_size}
use Rattle.code_emit.specs.Places.{starts_from}
use Rattle.code_emit.proofs.PlaceLemmas.{starts_more, starts_whole, counted_more, size_whole}
use Rattle.code_emit.proofs.places.places_of.Goals as goal

pub loop-statement-preserved : goal.loop-statement-preserved
loop-statement-preserved g c =
    let y = g.U.NamedUnit.layout c.args.unit.now in
    let u = g.U.NamedUnit.number c.args.unit.now in
    let l = c.loop-statement in
    let all = c.statements-statements.result.now in
    let first = prologue_size (first_code y u) (runnable (y.lines u)) in
    record {
      started = ap (λ (before : List ℕ). before ++ starts_from y u c.in_ok-at.at (lines_of (drop (l.statement-index + 1) all))) c.in_ok-push.ensures.items ∙ starts_more y u all l.statement-index c.statement-item.result c.loop-statement-test.true c.statement-item.is l.at c.in_ok-long.long c.in_ok-at.at l.starts.items (starts_from y u first (lines_of all)) c.in_ok-long.ensures c.in_ok-at.ensures l.invariant.started;
      counted = counted_more y u all l.statement-index c.statement-item.result c.loop-statement-test.true c.statement-item.is l.at c.in_ok-long.long c.in_ok-at.at (first + body_size y u (lines_of all)) c.in_ok-long.ensures c.in_ok-at.ensures l.invariant.counted;
    }

pub returns : goal.returns
returns g c =
    let y = g.U.NamedUnit.layout c.args.unit.now in
    let u = g.U.NamedUnit.number c.args.unit.now in
    let l = c.loop-statement in
    let all = c.statements-statements.result.now in
    let first = prologue_size (first_code y u) (runnable (y.lines u)) in
    record {
      starts = c.in_ok-push-2.ensures.items ∙ starts_whole y u all l.statement-index c.loop-statement-test.false l.at (y.lines u) first l.starts.items c.statements-statements.ensures l.invariant.started;
      size = size_whole y u all l.statement-index c.loop-statement-test.false l.at first c.in_ok-size.size c.statements-statements.ensures c.in_ok-size.ensures refl l.invariant.counted;
    }
