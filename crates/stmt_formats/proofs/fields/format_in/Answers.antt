-- More than one item.
use Rattle.std.proofs.Common.{◌≤◌, length, arith}
use Rattle.stmt_formats.proofs.ItemLemmas.{many_items}
use Rattle.stmt_formats.proofs.fields.format_in.Goals as goal

pub returns-then-items-ge2 : goal.returns-then-items-ge2
returns-then-items-ge2 c =
    let many : 2 ≤ length c.args.items.now = grind arith in
    many_items c.args.items.now many
