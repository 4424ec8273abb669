-- An implied DO: its list, and then its variable and parameters.
use Rattle.std.proofs.Common.{map}
use Rattle.f66_tree.specs.Views.{par_of, entry_of, entries_of}
use Rattle.f66_names.specs.DeclarationViews.{context_in}
use Rattle.f66_names.specs.Uses.{uses_of_counting}
use Rattle.f66_names.specs.UseViews.{use_of}
use Rattle.f66_names.proofs.EntryLemmas.{many_seen, used_after}
use Rattle.unit_rules.specs.Judged.{judged_of_entry, judged_of_entries}
use Rattle.unit_rules.proofs.judged.+collect_entries.Goals as goal

pub collect_entry-returns-in_ok-collect_entries-in-Many : goal.collect_entry-returns-in_ok-collect_entries-in-Many
collect_entry-returns-in_ok-collect_entries-in-Many t c =
    let d = context_in c.args.declarations.now in
    let m = c.in-Many in
    used_after c.collect_in_saying.result (map use_of c.args.uses.now.items) (map use_of c.collect_entries.new.uses.items) (map use_of c.collect_in_saying.new.uses.items)
    (judged_of_entries d (entries_of c.deref.result.now)) (uses_of_counting m.variable (par_of m.first) (par_of m.last) (par_of m.step)) (judged_of_entry d (entry_of c.args.entry.now))
    c.in_ok-collect_entries-in-Many.ensures
    (many_seen (judged_of_entry d) c.args.entry.now m.list m.variable m.first m.last m.step c.deref.result.now m.is c.deref.ensures.value) c.collect_in_saying.ensures
