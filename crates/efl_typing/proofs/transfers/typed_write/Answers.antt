-- The unit, and the items.
use Rattle.std.proofs.Common.{map}
use Rattle.efl_tree.specs.Views.{expr_if_any, write_item_of}
use Rattle.efl_typing.proofs.KindLemmas.{write_made}
use Rattle.efl_typing.proofs.transfers.typed_write.Goals as goal

pub returns : goal.returns
returns c = write_made (expr_if_any c.args.unit.now) (map write_item_of c.args.list.now) c.args.site.now c.in_ok-unit.unit c.in_ok-items.items c.in_ok-unit.ensures c.in_ok-items.ensures
