-- The groups before are told of.
use Rattle.std.proofs.Common.{drop}
use Rattle.efl_tree.specs.Views.{groups_of}
use Rattle.efl_scoped.specs.Seen.{table_of}
use Rattle.efl_scoped.proofs.ShapeLemmas.{GroupsLeft, beginning}
use Rattle.efl_scoped.proofs.shapes.+see_type.Given as goal

abbrev pub invariant-see_members-loop-group : goal.invariant-see_members-loop-group
invariant-see_members-loop-group l =
    GroupsLeft (table_of l.fn.numbers) l.fn.known (groups_of l.groups) beginning (table_of l.numbers) l.known (groups_of (drop l.group-index l.groups)) l.so_far
