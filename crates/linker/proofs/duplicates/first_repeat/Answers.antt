-- One unit more gives no name once more.
use Rattle.std.proofs.Common.{◌≤◌, length, map, arith}
use Rattle.std.proofs.lemmas.List.{length-map}
use Rattle.f66_tree.specs.Views.{routine_of}
use Rattle.linker.specs.CallViews.{units_in}
use Rattle.linker.proofs.PartLemmas.{got_mapped}
use Rattle.linker.proofs.RepeatLemmas.{clear_more, clear_all}
use Rattle.linker.proofs.duplicates.first_repeat.Goals as goal

pub loop-number-preserved : goal.loop-number-preserved
loop-number-preserved c =
    let units = c.args.calls.now.units.now in
    let n = c.loop-number.number in
    let unit = c.unit-item.result in
    let here = got_mapped routine_of units n unit c.loop-number-test.true c.unit-item.is in
    clear_more (units_in c.args.calls.now) n (routine_of unit) here c.loop-number.invariant c.in_default.ensures

pub returns : goal.returns
returns c =
    let units = c.args.calls.now.units.now in
    let n = c.loop-number.number in
    let past : length (map routine_of units) ≤ n = grind (arith, length-map, c.loop-number-test.false) in
    clear_all (units_in c.args.calls.now) n past c.loop-number.invariant
