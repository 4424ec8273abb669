-- The variables before have come.
use Rattle.std.proofs.Common.{take}
use Rattle.efl_tree.specs.Views.{vars_of}
use Rattle.efl_scoped.specs.Seen.{table_of}
use Rattle.efl_scoped.proofs.SortLemmas.{SortsLeft}
use Rattle.efl_scoped.proofs.lists.add_sorts.Given as goal

abbrev pub invariant-loop-variable : goal.invariant-loop-variable
invariant-loop-variable l = SortsLeft (table_of l.fn.numbers) l.kind l.fn.sorts.items (table_of l.numbers) (vars_of (take l.variable-index l.list)) l.sorts.items
