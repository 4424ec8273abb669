-- The copy of an implied DO is one of the same list, variable and parameters.
use Rattle.f66_tree.proofs.Rows.{many_copied}
use Rattle.f66_tree.proofs.statement.+copy_entries.Goals as goal

pub copy_entry-returns-in_ok-step-in-Many : goal.copy_entry-returns-in_ok-step-in-Many
copy_entry-returns-in_ok-step-in-Many t c =
    many_copied c.args.entry.now c.in-Many.list c.in_ok-list-in-Many.list c.in-Many.variable c.in_ok-variable-in-Many.variable c.in-Many.first c.in-Many.last c.in-Many.step
    c.in_ok-first-in-Many.first c.in_ok-last-in-Many.last c.in_ok-step-in-Many.step c.deref.result.now c.in-Many.is c.deref.ensures.value c.in_ok-list-in-Many.ensures c.in_ok-variable-in-Many.ensures
    c.in_ok-first-in-Many.ensures c.in_ok-last-in-Many.ensures c.in_ok-step-in-Many.ensures
