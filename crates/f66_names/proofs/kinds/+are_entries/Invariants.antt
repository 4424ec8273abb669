-- Those before are items.
use Rattle.std.proofs.Common.{◌≡◌, drop}
use Rattle.f66_tree.specs.Views.{entries_of}
use Rattle.f66_names.specs.Kinds.{are_entries}
use Rattle.f66_names.specs.DeclarationViews.{context_in}
use Rattle.f66_names.proofs.kinds.+are_entries.Given as goal

abbrev pub invariant-are_entries-loop-entry : goal.invariant-are_entries-loop-entry
invariant-are_entries-loop-entry l = are_entries l.way (context_in l.declarations) (entries_of (drop l.entry-index l.list)) ≡ are_entries l.way (context_in l.declarations) (entries_of l.list)
