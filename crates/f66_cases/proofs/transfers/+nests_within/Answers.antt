-- A group nests as deep as its parts, and one level more.
use Rattle.format_io.proofs.Trees.{group_within}
use Rattle.f66_cases.proofs.transfers.+nests_within.Goals as goal

pub loop-part-init : goal.loop-part-init
loop-part-init t c = group_within _ _ _ _ _ c.in-Group.is c.deref-part-items.ensures.value c.if-levels-eq0.false
