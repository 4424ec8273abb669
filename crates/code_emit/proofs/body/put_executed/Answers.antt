-- Where the statement's own code and its turns stand.
use Rattle.std.proofs.Common.{drop, map, refl}
use Rattle.f66_tree.specs.Views.{line_of}
use Rattle.code_emit.specs.Turns.{closer_in}
use Rattle.code_emit.proofs.BodyLemmas.{turns_fit, act_ends, line_put}
use Rattle.code_emit.proofs.body.put_executed.Goals as goal

pub overflow_sub-next : goal.overflow_sub-next
overflow_sub-next g c =
    let y = g.U.NamedUnit.layout c.args.unit.now in
    let u = g.U.NamedUnit.number c.args.unit.now in
    turns_fit y u (line_of c.args.statement.now) (drop c.args.behind (y.lines u)) (map (closer_in (y.lines u)) c.turns-turns.result.now) c.in_ok-size.size c.place-after.result _ c.turns-turns.ensures c.in_ok-size.ensures c.place-after.ensures c.requires

pub put_act-requires : goal.put_act-requires
put_act-requires g c =
    let y = g.U.NamedUnit.layout c.args.unit.now in
    let u = g.U.NamedUnit.number c.args.unit.now in
    act_ends y u (line_of c.args.statement.now) (drop c.args.behind (y.lines u)) (map (closer_in (y.lines u)) c.turns-turns.result.now) c.in_ok-size.size c.place-after.result _ c.turns-turns.ensures c.in_ok-size.ensures c.place-after.ensures c.requires
    c.args.ops.now.items c.put.new.ops.items refl c.in_ok-put.ensures

pub returns : goal.returns
returns g c =
    let y = g.U.NamedUnit.layout c.args.unit.now in
    let u = g.U.NamedUnit.number c.args.unit.now in
    line_put y u (line_of c.args.statement.now) (drop c.args.behind (y.lines u)) (map (closer_in (y.lines u)) c.turns-turns.result.now) c.in_ok-size.size c.place-after.result _ c.turns-turns.ensures c.in_ok-size.ensures c.place-after.ensures c.requires
    c.put_turns.result c.args.ops.now.items c.put.new.ops.items c.put_act.new.ops.items c.put_turns.new.ops.items c.in_ok-key.key c.in_ok-key.ensures c.in_ok-put.ensures c.in_ok-put_act.ensures c.put_turns.ensures
