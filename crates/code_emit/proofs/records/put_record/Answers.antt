-- READ or WRITE: its unit, its start, its list, its end.
use Rattle.std.proofs.Common.{◌++◌, ◌∷◌, [], ap, ◌∙◌}
use Rattle.f66_tree.specs.Views.{par_of, entries_of}
use Rattle.stack_code.specs.Views.{code_of}
use Rattle.code_emit.proofs.RecordLemmas.{record_put}
use Rattle.code_emit.proofs.records.put_record.Goals as goal

pub returns : goal.returns
returns g c =
    let y = g.U.NamedUnit.layout c.args.unit.now in
    let u = g.U.NamedUnit.number c.args.unit.now in
    record_put y u c.args.way (par_of c.args.par.now) c.args.plan (entries_of c.args.list.now) c.args.ops.now.items c.put_par.new.ops.items c.put.new.ops.items c.put_entries.new.ops.items c.put-2.new.ops.items c.put-2.result
    c.in_ok-put_par.ensures (c.in_ok-put.ensures ∙ ap (λ z. code_of c.put_par.new.ops.items ++ z ∷ []) c.start_op.ensures) c.in_ok-put_entries.ensures c.put-2.ensures
