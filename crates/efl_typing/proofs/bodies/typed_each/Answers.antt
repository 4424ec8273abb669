-- One body more.
use Rattle.std.proofs.Common.{◌≡◌, ◌+◌, Some, option_map, map, length, refl, sym, ap, subst, ◌∙◌, arith}
use Rattle.std.specs.List.{slice_get}
use Rattle.std.proofs.lemmas.List.{length-map}
use Rattle.std.proofs.lemmas.Option.{slice_get_read, slice_get-map}
use Rattle.efl_tree.specs.Views.{procedure_of}
use Rattle.efl_typing.proofs.BodyLemmas.{BodiesSo, bodies_begun, body_passed, bodies_ended}
use Rattle.efl_typing.proofs.bodies.typed_each.Goals as goal

pub loop-unit-init : goal.loop-unit-init
loop-unit-init c = record {
  within = omega arith;
  so = subst (BodiesSo (map procedure_of c.args.list.now) c.args.procedures.now c.args.variables.now 0) (sym c.new-bodies.ensures.items)
      (bodies_begun (map procedure_of c.args.list.now) c.args.procedures.now c.args.variables.now);
}

pub loop-unit-preserved : goal.loop-unit-preserved
loop-unit-preserved c =
    let l = c.loop-unit in
    let list = c.args.list.now in
    let us = map procedure_of list in
    let x = c.index-list-unit.result in
    let at : slice_get us l.unit ≡ Some (procedure_of x) =
    slice_get-map procedure_of list l.unit ∙ ap (λ o. option_map procedure_of o) (slice_get_read list (length list) l.unit x refl c.loop-unit-test.true c.index-list-unit.is) in
    record {
      within = omega (arith, c.loop-unit-test.true);
      so = subst (BodiesSo us c.args.procedures.now c.args.variables.now (l.unit + 1)) (sym c.in_ok-push.ensures.items)
          (body_passed us c.args.procedures.now c.args.variables.now l.unit (procedure_of x) l.bodies.items c.in_ok-typed_body.field-0 l.invariant.so at c.in_ok-typed_body.ensures);
    }

pub returns : goal.returns
returns c =
    let l = c.loop-unit in
    let list = c.args.list.now in
    let all : l.unit ≡ length list = omega (arith, l.invariant.within, c.loop-unit-test.false) in
    bodies_ended (map procedure_of list) c.args.procedures.now c.args.variables.now l.unit l.bodies.items l.invariant.so (all ∙ sym (length-map list procedure_of))
