-- The code, the place where control goes back, and whether it may, are those of the format.
use Rattle.std.proofs.Common.{◌≡◌, ◌≤◌, length, ap, arith}
use Rattle.std.proofs.Math.ListN.{drop_of_length-le}
use Rattle.format_io.proofs.Trees.{plan_starts, plan_ends}
use Rattle.format_io.proofs.layout.lay.Goals as goal

pub loop-field-init : goal.loop-field-init
loop-field-init c = plan_starts _ _ c.new-ops.ensures.items c.requires

pub returns : goal.returns
returns c =
    let n : length c.deref-field-items.result.now ≡ length c.args.fields.now.items = ap length c.deref-field-items.ensures.value in
    let past = c.loop-field-test.false in
    let le : length c.args.fields.now.items ≤ c.loop-field.field-index = omega (arith, n, past) in
    plan_ends _ _ _ (drop_of_length-le c.args.fields.now.items le) c.loop-field.invariant.0 c.loop-field.invariant.2 c.loop-field.invariant.3 c.requires
