-- Those before have their code.
use Rattle.std.proofs.Common.{◌≡◌, ◌+◌, ◌++◌, length, drop}
use Rattle.f66_tree.specs.Views.{entry_of, entries_of}
use Rattle.stack_code.specs.Views.{code_of}
use Rattle.code_gen.specs.Statements.{items_code}
use Rattle.code_emit.proofs.ListLemmas.{entry_measure, entries_measure}
use Rattle.code_emit.proofs.lists.+entries.Given as goal

abbrev pub invariant-put_entries-loop-entry : goal.invariant-put_entries-loop-entry
invariant-put_entries-loop-entry g l =
    code_of l.ops.items ++ items_code (g.U.NamedUnit.layout l.unit) (g.U.NamedUnit.number l.unit) l.way (length l.ops.items) (entries_of (drop l.entry-index l.list)) ≡ code_of l.initial.ops.items ++ items_code (g.U.NamedUnit.layout l.unit) (g.U.NamedUnit.number l.unit) l.way (length l.initial.ops.items) (entries_of l.list)

abbrev pub decreases-put_entry : goal.decreases-put_entry
decreases-put_entry g l = entry_measure (entry_of l.entry.now)

abbrev pub decreases-put_many : goal.decreases-put_many
decreases-put_many g l = entries_measure (entries_of l.list.now) + 3

abbrev pub decreases-put_entries : goal.decreases-put_entries
decreases-put_entries g l = entries_measure (entries_of l.list.now) + 1
