-- Those before are counted.
use Rattle.std.proofs.Common.{◌≡◌, ◌+◌, drop}
use Rattle.f66_tree.specs.Views.{entry_of, entries_of}
use Rattle.code_emit.specs.Sizes.{list_size}
use Rattle.code_emit.proofs.ListLemmas.{entry_measure, entries_measure}
use Rattle.code_emit.proofs.sizes.+list_size.Given as goal

abbrev pub invariant-list_size-loop-entry : goal.invariant-list_size-loop-entry
invariant-list_size-loop-entry g l =
    let y = g.U.NamedUnit.layout l.unit in
    let u = g.U.NamedUnit.number l.unit in
    l.sum + list_size y u (entries_of (drop l.entry-index l.list)) ≡ list_size y u (entries_of l.list)

abbrev pub decreases-part_size : goal.decreases-part_size
decreases-part_size g l = entry_measure (entry_of l.entry.now)

abbrev pub decreases-list_size : goal.decreases-list_size
decreases-list_size g l = entries_measure (entries_of l.list.now) + 1
