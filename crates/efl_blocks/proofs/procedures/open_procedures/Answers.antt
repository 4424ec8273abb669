-- One procedure more.
use Rattle.std.proofs.Common.{◌+◌, drop, map, sym, subst}
use Rattle.std.proofs.lemmas.List.{drop_all}
use Rattle.efl_tree.specs.Views.{procedure_of}
use Rattle.efl_scope.proofs.TreeLemmas.{drop_next}
use Rattle.efl_scoped.specs.Seen.{table_of}
use Rattle.efl_blocks.proofs.ProcedureLemmas.{ProceduresLeft, procedures_begun, procedure_passed, procedures_ended}
use Rattle.efl_blocks.proofs.procedures.open_procedures.Goals as goal

pub loop-procedure-init : goal.loop-procedure-init
loop-procedure-init c =
    let y = c.args.types.now in
    let us = map procedure_of c.args.list.now in
    let units = c.new-units.result in
    subst (λ os. ProceduresLeft y us y us os units) (sym c.new-outers.ensures.items) (procedures_begun y us units (c.new-units.ensures (table_of y.numbers) y.structures.list.items))

pub loop-procedure-preserved : goal.loop-procedure-preserved
loop-procedure-preserved c =
    let l = c.loop-procedure in
    let list = c.args.list.now in
    let us = map procedure_of list in
    let y = c.args.types.now in
    let u = c.procedure-item.result in
    let w = c.open_outer.new.types in
    let o = c.in_ok-outer.outer in
    let new = c.add_unit.new.units in
    let rest = map procedure_of (drop (l.procedure-index + 1) list) in
    subst (λ os. ProceduresLeft y us w rest os new) (sym c.in_ok-push.ensures.items)
    (procedure_passed y l.types w us (procedure_of u) rest l.outers.items o l.units new
    (subst (λ xs. ProceduresLeft y us l.types (map procedure_of xs) l.outers.items l.units) (drop_next list l.procedure-index u c.loop-procedure-test.true c.procedure-item.is) l.invariant)
    c.in_ok-outer.ensures c.in_ok-add_unit.ensures)

pub returns : goal.returns
returns c =
    let l = c.loop-procedure in
    let list = c.args.list.now in
    let us = map procedure_of list in
    let y = c.args.types.now in
    procedures_ended y l.types us (record { outers = l.outers; units = l.units })
    (subst (λ xs. ProceduresLeft y us l.types (map procedure_of xs) l.outers.items l.units) (drop_all l.procedure-index list c.loop-procedure-test.false) l.invariant)
