-- Those before are counted.
use Rattle.std.proofs.Common.{◌≡◌, ◌+◌, drop}
use Rattle.f66_tree.specs.Views.{entries_of}
use Rattle.code_gen.specs.Statements.{entries_room}
use Rattle.code_emit.proofs.lists.+entry_room.Given as goal

abbrev pub invariant-entries_room-loop-entry : goal.invariant-entries_room-loop-entry
invariant-entries_room-loop-entry g l = l.sum + entries_room ((g.U.NamedUnit.layout l.unit).linked.context (g.U.NamedUnit.number l.unit)) (entries_of (drop l.entry-index l.list)) ≡ entries_room ((g.U.NamedUnit.layout l.unit).linked.context (g.U.NamedUnit.number l.unit)) (entries_of l.list)
