-- The items before are copied.
use Rattle.std.proofs.Common.{◌≡◌, map, take}
use Rattle.f66_tree.specs.Views.{entry_of}
use Rattle.f66_tree.proofs.statement.+copy_entries.Given as goal

abbrev pub invariant-copy_entries-loop-entry : goal.invariant-copy_entries-loop-entry
invariant-copy_entries-loop-entry l = map entry_of l.copies.items ≡ map entry_of (take l.entry-index l.list)
