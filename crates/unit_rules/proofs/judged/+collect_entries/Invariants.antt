-- Those before have given their uses.
use Rattle.std.proofs.Common.{◌≡◌, ◌++◌, map, drop}
use Rattle.f66_tree.specs.Views.{entries_of}
use Rattle.f66_names.specs.UseViews.{use_of}
use Rattle.f66_names.specs.DeclarationViews.{context_in}
use Rattle.unit_rules.specs.Judged.{judged_of_entries}
use Rattle.unit_rules.proofs.judged.+collect_entries.Given as goal

abbrev pub invariant-collect_entries-loop-entry : goal.invariant-collect_entries-loop-entry
invariant-collect_entries-loop-entry l = map use_of l.uses.items ++ judged_of_entries (context_in l.declarations) (entries_of (drop l.entry-index l.list)) ≡ map use_of l.initial.uses.items ++ judged_of_entries (context_in l.declarations) (entries_of l.list)
