-- One statement more.
use Rattle.std.proofs.Common.{◌≡◌, ◌+◌, ◌++◌, List, drop, ap, sym, ◌∙◌}
use Rattle.f66_tree.specs.Syntax.{Line}
use Rattle.f66_tree.specs.Views.{line_of}
use Rattle.stack_code.specs.Views.{code_of}
use Rattle.code_gen.specs.Statements.{reset_code}
use Rattle.code_emit.proofs.BodyLemmas.{lines_at, lines_from}
use Rattle.code_emit.proofs.OpeningLemmas.{resets_step}
use Rattle.code_emit.proofs.prologue.put_resets.Goals as goal

pub loop-statement-preserved : goal.loop-statement-preserved
loop-statement-preserved g c =
    let y = g.U.NamedUnit.layout c.args.unit.now in
    let u = g.U.NamedUnit.number c.args.unit.now in
    let l = c.loop-statement in
    let all = c.statements-statements.result.now in
    let s = c.statement-item.result in
    let counted : l.behind + 1 ≡ l.statement-index + 1 = ap (λ n. n + 1) l.invariant.counted in
    let at = lines_at all (y.lines u) (l.behind + 1) l.statement-index s c.statements-statements.ensures counted c.loop-statement-test.true c.statement-item.is in
    let next = lines_from all (y.lines u) (l.behind + 1) (l.statement-index + 1) c.statements-statements.ensures counted in
    record {
      counted = counted;
      coded = ap (λ (ls : List Line). code_of c.put_reset.new.ops.items ++ reset_code y u ls) (sym next)
          ∙ resets_step y u l.ops.items c.put_reset.new.ops.items (line_of s) (drop (l.behind + 1) (y.lines u)) c.in_ok-put_reset.ensures
          ∙ ap (λ (ls : List Line). code_of l.ops.items ++ reset_code y u ls) (sym at) ∙ l.invariant.coded;
    }
