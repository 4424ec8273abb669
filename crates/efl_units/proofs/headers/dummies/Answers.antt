-- One name more is listed: that of the variable that the formal means in the outer block.
use Rattle.std.proofs.Common.{[], ◌∙◌, sym, ap, map}
use Rattle.std.proofs.Math.ListN.{drop_of_length-le}
use Rattle.std.proofs.lemmas.Simd.{map-map}
use Rattle.efl_tree.specs.Syntax.{Text}
use Rattle.efl_scope.specs.Scopes.{meaning, outer}
use Rattle.efl_scope.specs.Marks.{number_of, meant_by}
use Rattle.efl_emit.specs.Names.{home_of}
use Rattle.efl_room.proofs.Rows.{next_member}
use Rattle.efl_units.proofs.Mapped.{mapped_more, mapped_over}
use Rattle.efl_units.proofs.Tops.{meant_top}
use Rattle.efl_units.proofs.headers.dummies.Goals as goal

pub loop-formal-preserved : goal.loop-formal-preserved
loop-formal-preserved c = λ xs u are.
    let x = c.formal-item.result in
    let meant = meant_by [] x (meaning (outer u) x) in
    let top = meant_top u x in
    let name = c.in_ok-name.ensures ∙ ap (home_of c.args.naming.now) (c.formal_number-number.ensures xs meant are top.0 (top.1 ∙ sym c.as_bytes.ensures)) in
    let next = next_member c.args.formals.now c.loop-formal.formal-index x c.loop-formal-test.true c.formal-item.is in
    mapped_more (λ y. home_of c.args.naming.now (number_of xs c.args.unit (meant_by [] y (meaning (outer u) y)))) _ _ _ _ _ _ next c.in_ok-push.ensures.items name ∙ c.loop-formal.invariant xs u are

pub returns : goal.returns
returns c = λ xs u are same.
    let f = λ (y : Text). home_of c.args.naming.now (number_of xs c.args.unit (meant_by [] y (meaning (outer u) y))) in
    sym (mapped_over f _ _ (drop_of_length-le c.args.formals.now c.loop-formal-test.false)) ∙ c.loop-formal.invariant xs u are
    ∙ sym (map-map (home_of c.args.naming.now) (λ y. number_of xs c.args.unit (meant_by [] y (meaning (outer u) y))) c.args.formals.now)
    ∙ ap (λ fs. map (home_of c.args.naming.now) (map (λ y. number_of xs c.args.unit (meant_by [] y (meaning (outer u) y))) fs)) (sym same)
