-- The members before are told.
use Rattle.std.proofs.Common.{drop}
use Rattle.efl_tree.specs.Views.{vars_of}
use Rattle.efl_scoped.specs.Seen.{table_of}
use Rattle.efl_scoped.proofs.MemberLemmas.{MembersLeft}
use Rattle.efl_scoped.proofs.summaries.with_members.Given as goal

abbrev pub invariant-loop-variable : goal.invariant-loop-variable
invariant-loop-variable l = MembersLeft (table_of l.fn.numbers) l.fn.before l.kind (vars_of l.list) (table_of l.numbers) (vars_of (drop l.variable-index l.list)) l.so_far
