-- A name with a list.
use Rattle.code_emit.specs.Sizes.{value_size, place_size}
use Rattle.code_emit.proofs.FormLemmas.{item_number}
use Rattle.code_emit.proofs.sizes.+sizes.Goals as goal

pub value_size-returns-in-Item : goal.value_size-returns-in-Item
value_size-returns-in-Item g t c =
    item_number (value_size (g.U.NamedUnit.layout c.args.unit.now) (g.U.NamedUnit.number c.args.unit.now)) c.applied_size.result c.args.e.now c.in-Item.item c.deref.result.now c.deref-in-Item.result.now c.in-Item.is c.deref.ensures c.deref-in-Item.ensures.value c.applied_size.ensures

pub place_size-returns-in-Item : goal.place_size-returns-in-Item
place_size-returns-in-Item g t c =
    item_number (place_size (g.U.NamedUnit.layout c.args.unit.now) (g.U.NamedUnit.number c.args.unit.now)) c.item_place_size.result c.args.e.now c.in-Item.item c.deref.result.now c.deref-in-Item.result.now c.in-Item.is c.deref.ensures c.deref-in-Item.ensures.value c.item_place_size.ensures
