-- An implied DO.
use Rattle.code_emit.proofs.ListLemmas.{many_room}
use Rattle.code_emit.proofs.lists.+entry_room.Goals as goal

pub entry_room-returns-in_ok-room-in-Many : goal.entry_room-returns-in_ok-room-in-Many
entry_room-returns-in_ok-room-in-Many g t c =
    let m = c.in-Many in
    many_room ((g.U.NamedUnit.layout c.args.unit.now).linked.context (g.U.NamedUnit.number c.args.unit.now)) c.plus.result c.in_ok-room-in-Many.room c.args.entry.now m.list m.field-1 m.field-2 m.field-3 m.field-4 c.deref.result.now m.is c.deref.ensures.value c.in_ok-room-in-Many.ensures c.plus.ensures
