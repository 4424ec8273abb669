-- A value goes into a temporary of its own, which is listed.
use Rattle.std.proofs.Common.{sym, subst, ap}
use Rattle.f66_tree.specs.Syntax.{One}
use Rattle.efl_typed_tree.specs.Views.{write_item_of}
use Rattle.efl_emit.specs.Names.{emission_of}
use Rattle.efl_emit.specs.Transfers.{AddsItem}
use Rattle.efl_emit.proofs.Items.{value_added}
use Rattle.efl_emit.proofs.transfers.emit_item.Goals as goal

pub returns-in_ok-push-in-Value : goal.returns-in_ok-push-in-Value
returns-in_ok-push-in-Value c =
    let P =
    λ (x : _). AddsItem c.args.naming.now c.args.place (write_item_of x) c.args.number c.in_ok-value-in-Value.value.next c.args.list.now.items c.push.new.self.items (emission_of c.args.out.now) (emission_of c.emit_value.new.out) in
    subst P (sym c.in-Value.is) (value_added _ c.in_ok-value-in-Value.ensures c.in_ok-push-in-Value.ensures.items (ap One c.in_ok-operand_expr-in-Value.ensures))
