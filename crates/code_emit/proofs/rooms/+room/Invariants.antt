-- Those before are counted.
use Rattle.std.proofs.Common.{◌≡◌, ◌+◌, drop}
use Rattle.f66_tree.specs.Views.{formulas_of}
use Rattle.code_gen.specs.Expressions.{rooms_of, rooms_to_hand}
use Rattle.code_emit.proofs.rooms.+room.Given as goal

abbrev pub invariant-rooms_of-loop-e : goal.invariant-rooms_of-loop-e
invariant-rooms_of-loop-e g l = l.sum + rooms_of ((g.U.NamedUnit.layout l.unit).linked.context (g.U.NamedUnit.number l.unit)) (formulas_of (drop l.e-index l.list)) ≡ rooms_of ((g.U.NamedUnit.layout l.unit).linked.context (g.U.NamedUnit.number l.unit)) (formulas_of l.list)

abbrev pub invariant-rooms_to_hand-loop-e : goal.invariant-rooms_to_hand-loop-e
invariant-rooms_to_hand-loop-e g l = l.sum + rooms_to_hand ((g.U.NamedUnit.layout l.unit).linked.context (g.U.NamedUnit.number l.unit)) (formulas_of (drop l.e-index l.list)) ≡ rooms_to_hand ((g.U.NamedUnit.layout l.unit).linked.context (g.U.NamedUnit.number l.unit)) (formulas_of l.list)
