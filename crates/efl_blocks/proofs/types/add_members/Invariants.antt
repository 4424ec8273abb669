-- The members before have come.
use Rattle.std.proofs.Common.{drop}
use Rattle.efl_tree.specs.Views.{vars_of}
use Rattle.efl_blocks.proofs.MemberLemmas.{MembersLeft}
use Rattle.efl_blocks.proofs.types.add_members.Given as goal

abbrev pub invariant-loop-variable : goal.invariant-loop-variable
invariant-loop-variable l = MembersLeft l.fn.types l.kind (vars_of l.list) l.fn.members.items l.types (vars_of (drop l.variable-index l.list)) l.members.items
