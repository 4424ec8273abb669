-- An implied DO: its list, and then its variable and parameters.
use Rattle.std.proofs.Common.{map}
use Rattle.f66_tree.specs.Views.{par_of, entry_of, entries_of}
use Rattle.f66_names.specs.Uses.{uses_of_counting, uses_of_entry, uses_of_entries}
use Rattle.f66_names.specs.UseViews.{use_of}
use Rattle.f66_names.proofs.EntryLemmas.{many_seen, used_after}
use Rattle.f66_names.proofs.uses.+collect_entries.Goals as goal

pub collect_entry-returns-in_ok-collect_entries-in-Many : goal.collect_entry-returns-in_ok-collect_entries-in-Many
collect_entry-returns-in_ok-collect_entries-in-Many t c =
    let x = c.in-Many.variable in
    let a = c.in-Many.first in
    let b = c.in-Many.last in
    let d = c.in-Many.step in
    used_after c.collect_counting.result (map use_of c.args.uses.now.items) (map use_of c.collect_entries.new.uses.items) (map use_of c.collect_counting.new.uses.items)
    (uses_of_entries (entries_of c.deref.result.now)) (uses_of_counting x (par_of a) (par_of b) (par_of d)) (uses_of_entry (entry_of c.args.entry.now))
    c.in_ok-collect_entries-in-Many.ensures
    (many_seen uses_of_entry c.args.entry.now c.in-Many.list x a b d c.deref.result.now c.in-Many.is c.deref.ensures.value) c.collect_counting.ensures
