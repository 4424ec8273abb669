-- Those before have given their uses.
use Rattle.std.proofs.Common.{◌≡◌, ◌++◌, map, drop}
use Rattle.f66_tree.specs.Views.{entries_of}
use Rattle.f66_names.specs.Uses.{uses_of_entries}
use Rattle.f66_names.specs.UseViews.{use_of}
use Rattle.f66_names.proofs.uses.+collect_entries.Given as goal

abbrev pub invariant-collect_entries-loop-entry : goal.invariant-collect_entries-loop-entry
invariant-collect_entries-loop-entry l = map use_of l.uses.items ++ uses_of_entries (entries_of (drop l.entry-index l.list)) ≡ map use_of l.initial.uses.items ++ uses_of_entries (entries_of l.list)
