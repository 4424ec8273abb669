-- An implied DO.
use Rattle.std.proofs.Common.{◌∙◌}
use Rattle.stmt_reader.specs.Faults.{entry_has}
use Rattle.stmt_faults.specs.Asking.{asked_of}
use Rattle.stmt_faults.proofs.Seen.{many_seen}
use Rattle.stmt_faults.proofs.expressions.+entries_have.Goals as goal

pub entry_has-returns-in-Many : goal.entry_has-returns-in-Many
entry_has-returns-in-Many t c =
    c.many_has.ensures
    ∙ many_seen (entry_has (asked_of c.args.ask)) c.args.entry.now c.in-Many.list c.in-Many.variable c.in-Many.first c.in-Many.last c.in-Many.step c.deref.result.now c.in-Many.is c.deref.ensures.value
