-- A name with a list.
use Rattle.code_gen.specs.Expressions.{room_of}
use Rattle.code_emit.proofs.FormLemmas.{item_number}
use Rattle.code_emit.proofs.rooms.+room.Goals as goal

pub room_of-returns-in-Item : goal.room_of-returns-in-Item
room_of-returns-in-Item g t c =
    item_number (room_of ((g.U.NamedUnit.layout c.args.unit.now).linked.context (g.U.NamedUnit.number c.args.unit.now))) c.room_of_item.result c.args.e.now c.in-Item.item c.deref.result.now c.deref-in-Item.result.now c.in-Item.is c.deref.ensures c.deref-in-Item.ensures.value c.room_of_item.ensures
