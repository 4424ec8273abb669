-- One procedure more, with its outer block.
use Rattle.std.proofs.Common.{◌≡◌, false, true, ◌+◌, ◌∷◌, ◌++◌, map, drop, length, rules, sym, ap, subst, ◌∙◌}
use Rattle.std.specs.Option.{option_to_list, IsSome}
use Rattle.std.specs.Prelude.{vec_len}
use Rattle.std.specs.Vec.Iter.{into_iter_items, into_iter_len}
use Rattle.std.proofs.lemmas.List.{drop_all}
use Rattle.efl_tree.specs.Views.{procedure_of}
use Rattle.efl_scope.proofs.TreeLemmas.{drop_next}
use Rattle.efl_checks.proofs.ProcedureLemmas.{ProceduresLeft, procedures_begun, procedure_passed, procedure_missed, procedures_ended, long_left, none_left}
use Rattle.efl_checks.proofs.procedures.check_procedures.Goals as goal
use Rattle.efl_checks.proofs.procedures.check_procedures.Goals.{in-Some+in_ok-check_procedure, in_default}

pub loop-unit-init : goal.loop-unit-init
loop-unit-init c =
    let us = map procedure_of c.args.list.now in
    let y = c.args.types.now in
    let p = c.args.walk.now in
    let whole : vec_len c.args.outers ≡ length c.args.outers.items = search rules in
    record {
      long = c.into_iter-rest.ensures.len ∙ whole ∙ sym (ap length c.into_iter-rest.ensures.rest);
      left = subst (ProceduresLeft y us c.args.outers.items c.args.units.now p y p 0 us) (sym c.into_iter-rest.ensures.rest) (procedures_begun y us c.args.outers.items c.args.units.now p);
    }

pub loop-unit-preserved : goal.loop-unit-preserved
loop-unit-preserved c =
    let l = c.loop-unit in
    let list = c.args.list.now in
    let us = map procedure_of list in
    let all = c.args.outers.items in
    let units = c.args.units.now in
    let y = c.args.types.now in
    let p = c.args.walk.now in
    let x = c.index-list-unit.result in
    let u = procedure_of x in
    let rest = map procedure_of (drop (l.unit + 1) list) in
    let os = into_iter_items c.next.new.self in
    let before : ProceduresLeft y us all units p l.types l.walk l.unit (u ∷ rest) (into_iter_items l.rest) =
    subst (λ xs. ProceduresLeft y us all units p l.types l.walk l.unit (map procedure_of xs) (into_iter_items l.rest)) (drop_next list l.unit x c.loop-unit-test.true c.index-list-unit.is) l.invariant.left in
    record {
      long = long_left (into_iter_len c.next.new.self) (into_iter_len l.rest) (option_to_list c.next.result) os (into_iter_items l.rest) c.next.ensures.items c.next.ensures.len l.invariant.long;
      left = elim c.match-next.branch [
        | in-Some+in_ok-check_procedure w ↦
            subst (λ z. ProceduresLeft y us all units p z c.match-next.walk (l.unit + 1) rest os) (sym w.types-is)
            (subst (λ q. ProceduresLeft y us all units p w.check_procedure.new.types q (l.unit + 1) rest os) (sym w.walk-is)
            (procedure_passed y l.types w.check_procedure.new.types us all units p l.walk w.check_procedure.new.walk l.unit u rest w.in-Some.outer os
            (subst (ProceduresLeft y us all units p l.types l.walk l.unit (u ∷ rest)) (c.next.ensures.items ∙ ap (λ o. option_to_list o ++ os) w.in-Some.is) before) w.in_ok-check_procedure.ensures))
        | in_default w ↦
            subst (λ z. ProceduresLeft y us all units p z c.match-next.walk (l.unit + 1) rest os) (sym w.types-is)
            (subst (λ q. ProceduresLeft y us all units p l.types q (l.unit + 1) rest os) (sym w.walk-is)
            (procedure_missed y l.types us all units p l.walk l.unit u rest os
            (subst (ProceduresLeft y us all units p l.types l.walk l.unit (u ∷ rest))
            (none_left (into_iter_items l.rest) (into_iter_len l.rest) l.invariant.long (λ lt. (let f : false ≡ true = subst IsSome w.in_default.is (c.next.ensures.variant.1 lt) in cc))) before)))
      ];
    }

pub returns : goal.returns
returns c =
    let l = c.loop-unit in
    let list = c.args.list.now in
    let us = map procedure_of list in
    procedures_ended c.args.types.now l.types us c.args.outers.items c.args.units.now c.args.walk.now l.walk l.unit (into_iter_items l.rest)
    (subst (λ xs. ProceduresLeft c.args.types.now us c.args.outers.items c.args.units.now c.args.walk.now l.types l.walk l.unit (map procedure_of xs) (into_iter_items l.rest))
    (drop_all l.unit list c.loop-unit-test.false) l.invariant.left)
