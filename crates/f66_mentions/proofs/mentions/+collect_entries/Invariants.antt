-- Those before have given their names.
use Rattle.std.proofs.Common.{◌≡◌, ◌++◌, map, drop}
use Rattle.f66_tree.specs.Views.{entries_of}
use Rattle.f66_program.specs.Mentions.{mentions_of_entries}
use Rattle.f66_mentions.specs.UnitViews.{context_in, mention_of}
use Rattle.f66_mentions.proofs.mentions.+collect_entries.Given as goal

abbrev pub invariant-collect_entries-loop-entry : goal.invariant-collect_entries-loop-entry
invariant-collect_entries-loop-entry l = map mention_of l.mentions.items ++ mentions_of_entries (context_in l.names) (entries_of (drop l.entry-index l.list)) ≡ map mention_of l.initial.mentions.items ++ mentions_of_entries (context_in l.names) (entries_of l.list)
