-- Those before take their stores.
use Rattle.std.proofs.Common.{◌≡◌, drop}
use Rattle.f66_tree.specs.Views.{entries_of}
use Rattle.f66_names.specs.StoreRules.{store_entries}
use Rattle.f66_names.specs.DeclarationViews.{context_in}
use Rattle.f66_names.proofs.store_rules.+store_entries.Given as goal

abbrev pub invariant-store_entries-loop-entry : goal.invariant-store_entries-loop-entry
invariant-store_entries-loop-entry l = store_entries l.way (context_in l.declarations) (entries_of (drop l.entry-index l.list)) ≡ store_entries l.way (context_in l.declarations) (entries_of l.list)
