-- Those before have their code.
use Rattle.std.proofs.Common.{◌≡◌, ◌++◌, map, drop}
use Rattle.stack_code.specs.Views.{code_of}
use Rattle.code_gen.specs.Statements.{turns_code}
use Rattle.code_emit.specs.Turns.{closer_in}
use Rattle.code_emit.proofs.turns.put_turns.Given as goal

abbrev pub invariant-loop-turn : goal.invariant-loop-turn
invariant-loop-turn g l =
    let y = g.U.NamedUnit.layout l.unit in
    let u = g.U.NamedUnit.number l.unit in
    code_of l.ops.items ++ turns_code y u (map (closer_in (y.lines u)) (drop l.turn-index l.turns)) ≡ code_of l.initial.ops.items ++ turns_code y u (map (closer_in (y.lines u)) l.turns)
