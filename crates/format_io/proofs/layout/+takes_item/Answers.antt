-- A group takes an item where one of its parts does.
use Rattle.format_io.proofs.Trees.{group_has}
use Rattle.format_io.proofs.layout.+takes_item.Goals as goal

pub loop-part-init : goal.loop-part-init
loop-part-init t c = group_has _ _ _ _ c.in-Group.is c.deref-part-items.ensures.value c.if-count-eq0.false
