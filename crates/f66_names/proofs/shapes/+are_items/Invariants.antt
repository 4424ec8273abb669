-- Those before are items.
use Rattle.std.proofs.Common.{◌≡◌, drop}
use Rattle.f66_tree.specs.Views.{entries_of}
use Rattle.f66_names.specs.Shapes.{are_items}
use Rattle.f66_names.proofs.shapes.+are_items.Given as goal

abbrev pub invariant-are_items-loop-entry : goal.invariant-are_items-loop-entry
invariant-are_items-loop-entry l = are_items (entries_of (drop l.entry-index l.list)) ≡ are_items (entries_of l.list)
