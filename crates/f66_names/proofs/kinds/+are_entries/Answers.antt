-- An implied DO.
use Rattle.std.proofs.Common.{◌∙◌}
use Rattle.f66_names.specs.Kinds.{is_entry}
use Rattle.f66_names.specs.DeclarationViews.{context_in}
use Rattle.f66_names.proofs.EntryLemmas.{many_seen}
use Rattle.f66_names.proofs.kinds.+are_entries.Goals as goal

pub is_entry-returns-in-Many : goal.is_entry-returns-in-Many
is_entry-returns-in-Many t c =
    c.are_counted.ensures
    ∙ many_seen (is_entry c.args.way (context_in c.args.declarations.now)) c.args.entry.now c.in-Many.list c.in-Many.variable c.in-Many.first c.in-Many.last c.in-Many.step c.deref.result.now c.in-Many.is c.deref.ensures.value
