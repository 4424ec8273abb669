-- One row more is swept.
use Rattle.std.proofs.Common.{◌<◌, ◌^◌, arith, refl, slice_index, FitsSigned}
use mir.Syntax.{w128}
use Rattle.std.proofs.lemmas.Int.{ints, to_z-of_z}
use Rattle.offset_classes.specs.Numbers.{row_node, row_offset}
use Rattle.offset_classes.proofs.NumberLemmas.{sweep_begins, sweep_next, sweep_ends}
use Rattle.offset_classes.proofs.numbers.sweep.Goals as goal

pub loop-row-init : goal.loop-row-init
loop-row-init c = rw c.new-firsts.ensures.items (sweep_begins c.args.rows.now c.args.sizes.now _ _ c.requires.rows refl)

pub loop-row-preserved : goal.loop-row-preserved
loop-row-preserved c =
    let rows = c.args.rows.now in
    let sizes = c.args.sizes.now in
    let k = c.loop-row.row-index in
    let small : slice_index sizes (row_node rows k) < 2 ^ 16 = c.requires.sizes (row_node rows k) 0 (c.requires.rows.inside k c.loop-row-test.true) in
    let near = c.requires.rows.near k c.loop-row-test.true in
    let fit : FitsSigned w128 (row_offset rows k) = omega (arith, ints, near.0, near.1) in
    let next = rw to_z-of_z at c.next_number-number.ensures in
    rw c.in_ok-push.ensures.items
    (sweep_next rows sizes c.loop-row.firsts.items _ k c.loop-row.island c.next_number-number.new.island c.next_number-number.result c.requires.rows c.loop-row-test.true c.loop-row.invariant small next)

pub returns : goal.returns
returns c = sweep_ends c.args.rows.now c.args.sizes.now c.loop-row.firsts.items _ _ c.loop-row.row-index (let a = c.loop-row-test.false in let b = c.loop-row.auto.row-index-end in omega arith) refl c.loop-row.invariant
