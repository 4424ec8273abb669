-- An implied DO, and the end of the recursion.
use Rattle.std.proofs.Common.{arith, rules}
use Rattle.code_emit.proofs.ListLemmas.{entry_measure, entry_member, many_seen}
use Rattle.code_emit.proofs.SizeLemmas.{many_sized}
use Rattle.code_emit.proofs.sizes.+list_size.Goals as goal

pub part_size-list_size-requires : goal.part_size-list_size-requires
part_size-list_size-requires g t c κs within =
    let m = c.in-Many in
    let said = many_seen entry_measure c.args.entry.now m.list m.variable m.first m.last m.step c.deref.result.now m.is c.deref.ensures.value in
    (omega (arith, said), search rules)

pub list_size-part_size-requires : goal.list_size-part_size-requires
list_size-part_size-requires g t c κs within =
    let size = entry_member c.args.list.now c.loop-entry.entry-index c.entry-item.result c.loop-entry-test.true c.entry-item.is in
    (omega (arith, size), search rules)

pub part_size-returns-in_ok-whole-in-Many : goal.part_size-returns-in_ok-whole-in-Many
part_size-returns-in_ok-whole-in-Many g t c =
    let y = g.U.NamedUnit.layout c.args.unit.now in
    let u = g.U.NamedUnit.number c.args.unit.now in
    let m = c.in-Many in
    many_sized y u c.plus-in-Many.result c.args.entry.now m.list m.variable m.first m.last m.step c.deref.result.now c.in_ok-size-in-Many.size c.in_ok-whole-in-Many.whole c.counting_size.result m.is c.deref.ensures.value c.in_ok-size-in-Many.ensures c.counting_size.ensures c.in_ok-whole-in-Many.ensures c.plus-in-Many.ensures
