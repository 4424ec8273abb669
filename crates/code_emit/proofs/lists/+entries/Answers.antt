-- An implied DO, and one part of a list more.
use Rattle.std.proofs.Common.{◌++◌, length, arith, rules}
use Rattle.f66_tree.specs.Views.{par_of, entries_of}
use Rattle.stack_code.specs.Views.{code_of}
use Rattle.code_gen.specs.Statements.{entry_code, items_code}
use Rattle.code_emit.proofs.ListLemmas.{entry_measure, entry_member, items_step, items_end, many_seen, many_put, many_code}
use Rattle.code_emit.proofs.lists.+entries.Goals as goal

pub put_entry-put_many-requires : goal.put_entry-put_many-requires
put_entry-put_many-requires g t c κs within =
    let m = c.in-Many in
    let said = many_seen entry_measure c.args.entry.now m.list m.variable m.first m.last m.step c.deref.result.now m.is c.deref.ensures.value in
    (omega (arith, said), search rules)

pub put_entries-put_entry-requires : goal.put_entries-put_entry-requires
put_entries-put_entry-requires g t c κs within =
    let size = entry_member c.args.list.now c.loop-entry.entry-index c.entry-item.result c.loop-entry-test.true c.entry-item.is in
    (omega (arith, size), search rules)

pub put_entry-returns-in-Many : goal.put_entry-returns-in-Many
put_entry-returns-in-Many g t c =
    let y = g.U.NamedUnit.layout c.args.unit.now in
    let u = g.U.NamedUnit.number c.args.unit.now in
    let m = c.in-Many in
    many_put (entry_code y u c.args.way (length c.args.ops.now.items)) c.put_many.result (code_of c.args.ops.now.items) (code_of c.put_many.new.ops.items) c.args.entry.now m.list m.variable m.first m.last m.step c.deref.result.now m.is c.deref.ensures.value c.put_many.ensures

pub put_many-returns : goal.put_many-returns
put_many-returns g t c =
    let y = g.U.NamedUnit.layout c.args.unit.now in
    let u = g.U.NamedUnit.number c.args.unit.now in
    let begun = c.in_ok-begun in
    many_code y u c.args.way (entries_of c.args.list.now) c.args.variable.now (par_of c.args.first.now) (par_of c.args.last.now) (par_of c.args.step.now) c.args.ops.now.items c.begin_many.new.ops.items c.put_entries.new.ops.items c.end_many.new.ops.items
    c.end_many.result begun.begun.0 begun.begun.1 begun.ensures.limit begun.ensures.turn begun.ensures.code c.in_ok-put_entries.ensures c.end_many.ensures

pub put_entries-loop-entry-preserved : goal.put_entries-loop-entry-preserved
put_entries-loop-entry-preserved g t c =
    let y = g.U.NamedUnit.layout c.args.unit.now in
    let u = g.U.NamedUnit.number c.args.unit.now in
    items_step y u c.args.way c.loop-entry.ops.items c.put_entry.new.ops.items c.args.list.now c.loop-entry.entry-index c.entry-item.result (code_of c.args.ops.now.items ++ items_code y u c.args.way (length c.args.ops.now.items) (entries_of c.args.list.now)) c.loop-entry-test.true c.entry-item.is c.in_ok-put_entry.ensures c.loop-entry.invariant

pub put_entries-returns : goal.put_entries-returns
put_entries-returns g t c =
    let y = g.U.NamedUnit.layout c.args.unit.now in
    let u = g.U.NamedUnit.number c.args.unit.now in
    items_end y u c.args.way (length c.loop-entry.ops.items) c.loop-entry.ops.items c.args.list.now c.loop-entry.entry-index (code_of c.args.ops.now.items ++ items_code y u c.args.way (length c.args.ops.now.items) (entries_of c.args.list.now)) c.loop-entry-test.false c.loop-entry.invariant
