-- The groups before are listed.
use Rattle.std.proofs.Common.{drop}
use Rattle.efl_tree.specs.Views.{groups_of}
use Rattle.efl_scoped.specs.Seen.{table_of}
use Rattle.efl_scoped.proofs.SortLemmas.{GroupsListed}
use Rattle.efl_scoped.proofs.lists.list_groups.Given as goal

abbrev pub invariant-loop-group : goal.invariant-loop-group
invariant-loop-group l =
    GroupsListed (table_of l.fn.numbers) l.fn.known (groups_of l.groups) l.fn.sorts.items (table_of l.numbers) l.known (groups_of (drop l.group-index l.groups)) l.sorts.items
