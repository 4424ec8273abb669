-- An implied DO: its list, and then its variable and parameters.
use Rattle.std.proofs.Common.{map, refl}
use Rattle.f66_tree.specs.Views.{par_of, entries_of}
use Rattle.f66_program.specs.Mentions.{mentions_of_counting, mentions_of_entry, mentions_of_entries}
use Rattle.f66_mentions.specs.UnitViews.{context_in, mention_of}
use Rattle.f66_mentions.proofs.FormLemmas.{many_added}
use Rattle.f66_mentions.proofs.mentions.+collect_entries.Goals as goal

pub collect_entry-returns-in_ok-collect_entries-in-Many : goal.collect_entry-returns-in_ok-collect_entries-in-Many
collect_entry-returns-in_ok-collect_entries-in-Many t c =
    let x = c.in-Many.variable in
    let a = c.in-Many.first in
    let b = c.in-Many.last in
    let d = c.in-Many.step in
    many_added (mentions_of_entry (context_in c.args.names.now)) c.collect_counting.result (map mention_of c.args.mentions.now.items) (map mention_of c.collect_entries.new.mentions.items)
    (map mention_of c.collect_counting.new.mentions.items) (mentions_of_entries (context_in c.args.names.now) (entries_of c.deref.result.now)) (mentions_of_counting x (par_of a) (par_of b) (par_of d))
    c.args.entry.now c.in-Many.list x a b d c.deref.result.now c.in-Many.is c.deref.ensures.value c.in_ok-collect_entries-in-Many.ensures refl c.collect_counting.ensures
