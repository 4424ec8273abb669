-- No member before has the name.
use Rattle.std.proofs.Common.{List, drop}
use Rattle.efl_scope.specs.DataTypes.{Members}
use Rattle.efl_scoped.specs.Numbers.{Table}
use Rattle.efl_expressions.specs.declared.types.Structure.{Structure}
use Rattle.efl_expressions.specs.TypeViews.{AreMembers}
use Rattle.efl_expressions.proofs.TypeLemmas.{Left}
use Rattle.efl_expressions.proofs.types.named.Given as goal

abbrev pub invariant-loop-member : goal.invariant-loop-member
invariant-loop-member l = (f : Table) (ss : List Structure) (ms : Members) → AreMembers f ss ms l.members → Left f ss l.name ms (drop l.member-index l.members)
