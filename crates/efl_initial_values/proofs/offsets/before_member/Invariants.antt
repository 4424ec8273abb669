-- The members before have another name.
use Rattle.std.proofs.Common.{List, drop}
use Rattle.efl_scope.specs.DataTypes.{Members}
use Rattle.efl_scoped.specs.Numbers.{Table}
use Rattle.efl_expressions.specs.declared.types.Structure.{Structure}
use Rattle.efl_expressions.specs.TypeViews.{AreMembers}
use Rattle.efl_initial_values.proofs.PlaceLemmas.{BeforeLeft}
use Rattle.efl_initial_values.proofs.offsets.before_member.Given as goal

abbrev pub invariant-loop-member : goal.invariant-loop-member
invariant-loop-member l = (f : Table) (ss : List Structure) (ms : Members) → AreMembers f ss ms l.members → BeforeLeft f ss l.name ms l.before (drop l.member-index l.members)
