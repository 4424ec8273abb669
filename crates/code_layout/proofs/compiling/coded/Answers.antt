-- In their order the units are entered and planned.
use Rattle.std.proofs.Common.{◌≡◌, ◌∙◌, All, map, sym, ap, subst}
use Rattle.code_validity.specs.Valid.{storage_size}
use Rattle.code_layout.specs.declared.linked_unit.LinkedUnit.{LinkedUnit}
use Rattle.code_layout.specs.Tabled.{layout_in}
use Rattle.code_layout.specs.Placing.{AreOrdered}
use Rattle.code_layout.proofs.CompileLemmas.{are_entered, are_planned, are_shallow, are_coded}
use Rattle.code_layout.proofs.compiling.coded.Goals as goal

pub code_program-requires-clause-entered : goal.code_program-requires-clause-entered
code_program-requires-clause-entered c =
    let t = c.args.tables.now in
    let m = c.args.spread.now in
    let units = c.deref-2.result.now in
    let ordered : AreOrdered t m units = subst (AreOrdered t m) (sym c.deref-2.ensures.value) c.in_ok-units.ensures in
    are_entered t m c.requires.placed units ordered

pub code_program-requires-clause-planned : goal.code_program-requires-clause-planned
code_program-requires-clause-planned c =
    let t = c.args.tables.now in
    let m = c.args.spread.now in
    let units = c.deref-2.result.now in
    let ordered : AreOrdered t m units = subst (AreOrdered t m) (sym c.deref-2.ensures.value) c.in_ok-units.ensures in
    are_planned t m c.requires.placed units ordered

pub code_program-requires-clause-shallow : goal.code_program-requires-clause-shallow
code_program-requires-clause-shallow c =
    let t = c.args.tables.now in
    let m = c.args.spread.now in
    let units = c.deref-2.result.now in
    let ordered : AreOrdered t m units = subst (AreOrdered t m) (sym c.deref-2.ensures.value) c.in_ok-units.ensures in
    are_shallow t m c.requires.placed units ordered c.requires.sound.sound

pub returns : goal.returns
returns c =
    let t = c.args.tables.now in
    let m = c.args.spread.now in
    let units = c.deref-2.result.now in
    let ordered : AreOrdered t m units = subst (AreOrdered t m) (sym c.deref-2.ensures.value) c.in_ok-units.ensures in
    let same : c.deref.result.now ≡ units = c.deref.ensures.value ∙ sym c.deref-2.ensures.value in
    are_coded t m c.requires.placed units ordered c.in_ok-made.made c.in_ok-size.size c.in_ok-made.ensures
    (λ y one. c.in_ok-size.ensures.size y (subst (All (λ (v : LinkedUnit). layout_in v.tables.now v.spread.now ≡ y)) (sym same) one) ∙ ap (λ us. storage_size y (map (λ (v : LinkedUnit). v.number) us)) same)
    c.in_ok-size.ensures.few
