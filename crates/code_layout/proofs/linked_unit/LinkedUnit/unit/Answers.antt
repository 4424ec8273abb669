-- It stands there.
use Rattle.std.proofs.Common.{◌<◌, ◌∙◌, ap, slice_index_or, length, arith}
use Rattle.f66_tree.specs.Views.{routine_of}
use Rattle.linker.proofs.PartLemmas.{got_mapped}
use Rattle.code_layout.proofs.linked_unit.LinkedUnit.unit.Goals as goal

pub returns : goal.returns
returns c =
    let n = c.args.self.now.number in
    let x = c.index-all-number.result in
    let us = c.args.self.now.tables.now.linked.now.calls.units.now in
    let below : n < length us = (let a = c.args.self.now.inside in let b = c.args.self.now.tables.now.many in omega (arith, a, b)) in
    got_mapped routine_of us n x below (c.index-all-number.is ∙ ap (λ vs. slice_index_or vs n x) c.units-all.ensures)
