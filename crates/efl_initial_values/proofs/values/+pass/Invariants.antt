-- The values before have gone over the members and elements before.
use Rattle.std.proofs.Common.{◌≡◌, ◌≤◌, ◌+◌, ◌*◌, ℕ, drop}
use Rattle.efl_scope.specs.DataTypes.{Members, all_places}
use Rattle.efl_types.specs.Presets.{kinds_in}
use Rattle.efl_scoped.specs.Numbers.{Table}
use Rattle.efl_expressions.specs.TypeViews.{AreMembers}
use Rattle.efl_initial_values.specs.Filling.{depth_in}
use Rattle.efl_initial_values.proofs.PassLemmas.{StructuresLeft, MembersLeft}
use Rattle.efl_initial_values.proofs.values.+pass.Given as goal

abbrev pub invariant-pass_structures-loop-left : goal.invariant-pass_structures-loop-left
invariant-pass_structures-loop-left l = (f : Table) (ms : Members) (n : ℕ) →
    AreMembers f l.structures.list.items ms l.members → depth_in ms ≤ l.depth → l.places ≡ all_places ms → l.total ≡ n * l.places → l.total ≤ 32767 →
    StructuresLeft l.values l.fn.from n (kinds_in ms) l.progress l.left

abbrev pub decreases-pass_structures-loop-left : goal.decreases-pass_structures-loop-left
decreases-pass_structures-loop-left l = l.left

abbrev pub invariant-pass_members-loop-member : goal.invariant-pass_members-loop-member
invariant-pass_members-loop-member l = (f : Table) (ms : Members) →
    AreMembers f l.structures.list.items ms l.members → depth_in ms ≤ l.depth → all_places ms ≤ 32767 →
    MembersLeft f l.structures.list.items l.depth l.values l.fn.from (kinds_in ms) l.progress (drop l.member-index l.members)

abbrev pub decreases-pass_elements : goal.decreases-pass_elements
decreases-pass_elements l = l.depth * 3

abbrev pub decreases-pass_structures : goal.decreases-pass_structures
decreases-pass_structures l = l.depth * 3 + 2

abbrev pub decreases-pass_members : goal.decreases-pass_members
decreases-pass_members l = l.depth * 3 + 1
