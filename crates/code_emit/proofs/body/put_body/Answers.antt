-- One statement more, and the end.
use Rattle.std.proofs.Common.{◌≡◌, ◌+◌, ◌++◌, List, length, refl, ap, sym, subst, ◌∙◌}
use Rattle.f66_tree.specs.Syntax.{Line}
use Rattle.stack_code.specs.Views.{code_of}
use Rattle.code_gen.specs.Statements.{body_code, body_size, stop}
use Rattle.code_emit.proofs.BodyLemmas.{body_end, lines_at, lines_from}
use Rattle.code_emit.proofs.body.put_body.Goals as goal

pub loop-statement-init : goal.loop-statement-init
loop-statement-init g c =
    let y = g.U.NamedUnit.layout c.args.unit.now in
    let u = g.U.NamedUnit.number c.args.unit.now in
    record {
      counted = refl;
      ends = subst (λ (ls : List Line). length c.args.ops.now.items + body_size y u ls ≡ stop y u) (sym c.statements-statements.ensures) c.requires;
      coded = refl;
    }

pub put_statement-requires : goal.put_statement-requires
put_statement-requires g c =
    let y = g.U.NamedUnit.layout c.args.unit.now in
    let u = g.U.NamedUnit.number c.args.unit.now in
    let l = c.loop-statement in
    let all = c.statements-statements.result.now in
    let s = c.statement-item.result in
    let counted : l.behind + 1 ≡ l.statement-index + 1 = ap (λ n. n + 1) l.invariant.counted in
    let at = lines_at all (y.lines u) (l.behind + 1) l.statement-index s c.statements-statements.ensures counted c.loop-statement-test.true c.statement-item.is in
    subst (λ (ls : List Line). length l.ops.items + body_size y u ls ≡ stop y u) at l.invariant.ends

pub loop-statement-preserved : goal.loop-statement-preserved
loop-statement-preserved g c =
    let y = g.U.NamedUnit.layout c.args.unit.now in
    let u = g.U.NamedUnit.number c.args.unit.now in
    let l = c.loop-statement in
    let all = c.statements-statements.result.now in
    let s = c.statement-item.result in
    let counted : l.behind + 1 ≡ l.statement-index + 1 = ap (λ n. n + 1) l.invariant.counted in
    let at = lines_at all (y.lines u) (l.behind + 1) l.statement-index s c.statements-statements.ensures counted c.loop-statement-test.true c.statement-item.is in
    let next = lines_from all (y.lines u) (l.behind + 1) (l.statement-index + 1) c.statements-statements.ensures counted in
    record {
      counted = counted;
      ends = subst (λ (ls : List Line). length c.put_statement.new.ops.items + body_size y u ls ≡ stop y u) next c.in_ok-put_statement.ensures.size;
      coded = ap (λ (ls : List Line). code_of c.put_statement.new.ops.items ++ body_code y u ls) (sym next) ∙ c.in_ok-put_statement.ensures.code ∙ ap (λ (ls : List Line). code_of l.ops.items ++ body_code y u ls) (sym at) ∙ l.invariant.coded;
    }

pub returns : goal.returns
returns g c =
    let y = g.U.NamedUnit.layout c.args.unit.now in
    let u = g.U.NamedUnit.number c.args.unit.now in
    let l = c.loop-statement in
    let all = c.statements-statements.result.now in
    body_end c.put_leave.result y u all (y.lines u) l.statement-index c.args.ops.now.items l.ops.items c.put_leave.new.ops.items c.statements-statements.ensures c.loop-statement-test.false l.invariant.coded c.put_leave.ensures
