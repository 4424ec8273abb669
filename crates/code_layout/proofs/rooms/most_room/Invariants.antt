-- Those before take at most so many.
use Rattle.std.proofs.Common.{◌≡◌, max, drop}
use Rattle.f66_tree.specs.Views.{lines_of}
use Rattle.code_gen.specs.LayingOut.{most_room}
use Rattle.code_layout.proofs.rooms.most_room.Given as goal

abbrev pub invariant-loop-statement : goal.invariant-loop-statement
invariant-loop-statement g l =
    let c = (g.U.NamedUnit.layout l.unit).linked.context (g.U.NamedUnit.number l.unit) in
    max l.most (most_room c (lines_of (drop l.statement-index l.statements))) ≡ most_room c (lines_of l.statements)
