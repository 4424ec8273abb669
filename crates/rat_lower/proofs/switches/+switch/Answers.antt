-- A block has a switch where its list has one.
use Rattle.std.proofs.Common.{arith, sym, ◌∙◌}
use Rattle.rat_lower.proofs.Emitting.Blocks.{member_size}
use Rattle.rat_lower.proofs.Emitting.Members.{block_size, block_has}
use Rattle.rat_lower.proofs.switches.+switch.Goals as goal

pub has_switch-have_switch-requires : goal.has_switch-have_switch-requires
has_switch-have_switch-requires t c =
    let size = block_size c.args.statement.now c.in-Block.list c.deref.result.now c.in-Block.is c.deref.ensures.value in
    (omega (arith, size), tt)

pub has_switch-returns-in-Block : goal.has_switch-returns-in-Block
has_switch-returns-in-Block t c = c.have_switch.ensures ∙ sym (block_has c.args.statement.now c.in-Block.list c.deref.result.now c.in-Block.is c.deref.ensures.value)

pub have_switch-has_switch-requires : goal.have_switch-has_switch-requires
have_switch-has_switch-requires t c =
    let size = member_size c.args.list.now c.loop-statement.statement-index c.statement-item.result c.loop-statement-test.true c.statement-item.is in
    (omega (arith, size), tt)
