-- The code of a group is that of its parts between its beginning and its end.
use Rattle.std.proofs.Common.{◌≤◌, ◌+◌, ◌++◌, ap, map, arith, length, drop}
use Rattle.std.proofs.Math.ListN.{drop_of_length-le}
use Rattle.format_io.specs.Places.{plan_code}
use Rattle.format_io.proofs.Parts.{list_code}
use Rattle.format_io.proofs.Trees.{enclosed, group_depth}
use Rattle.format_io.proofs.layout.+emit.Goals as goal

pub loop-part-init : goal.loop-part-init
loop-part-init t c = (
  ap (λ v. map plan_code v ++ list_code (c.args.level + 1) c.deref-part-items.result.now) c.new-body.ensures.items,
  group_depth _ _ _ _ _ c.in-Group.is c.deref-part-items.ensures.value c.requires,
)

pub returns-after-loop-part : goal.returns-after-loop-part
returns-after-loop-part t c =
    let items = c.deref-part-items.result.now in
    let past = c.loop-part-test.false in
    let le : length items ≤ c.loop-part.part-index = omega (arith, past) in
    enclosed c.enclose.result c.args.field.now c.in-Group.count c.in-Group.inside items (drop c.loop-part.part-index items) c.args.level _ _ c.loop-part.body.items c.in-Group.is c.deref-part-items.ensures.value
    (drop_of_length-le items le) c.loop-part.invariant.0 c.enclose.ensures
