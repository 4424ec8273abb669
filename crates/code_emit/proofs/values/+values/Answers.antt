-- A name with a list.
use Rattle.stack_code.specs.Views.{code_of}
use Rattle.code_gen.specs.Expressions.{value_code, place_code}
use Rattle.code_emit.proofs.FormLemmas.{item_put}
use Rattle.code_emit.proofs.values.+values.Goals as goal

pub put_value-returns-in-Item : goal.put_value-returns-in-Item
put_value-returns-in-Item g t c =
    item_put (value_code (g.U.NamedUnit.layout c.args.unit.now) (g.U.NamedUnit.number c.args.unit.now)) c.put_applied.result (code_of c.args.ops.now.items) (code_of c.put_applied.new.ops.items)
    c.args.e.now c.in-Item.item c.deref.result.now c.deref-in-Item.result.now c.in-Item.is c.deref.ensures c.deref-in-Item.ensures.value c.put_applied.ensures

pub put_place-returns-in-Item : goal.put_place-returns-in-Item
put_place-returns-in-Item g t c =
    item_put (place_code (g.U.NamedUnit.layout c.args.unit.now) (g.U.NamedUnit.number c.args.unit.now)) c.put_item_place.result (code_of c.args.ops.now.items) (code_of c.put_item_place.new.ops.items)
    c.args.e.now c.in-Item.item c.deref.result.now c.deref-in-Item.result.now c.in-Item.is c.deref.ensures c.deref-in-Item.ensures.value c.put_item_place.ensures
