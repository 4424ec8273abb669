-- No member before has the type.
use Rattle.std.proofs.Common.{drop}
use Rattle.efl_scope.specs.DataTypes.{DataType, Members}
use Rattle.efl_scoped.specs.Numbers.{Table}
use Rattle.efl_scoped.specs.Told.{Tells}
use Rattle.efl_expressions.specs.TypeViews.{AreMembers, TellsApart}
use Rattle.efl_expressions.proofs.TypeLemmas.{LeftAmong}
use Rattle.efl_expressions.proofs.types.Structures.is_among.Given as goal

abbrev pub invariant-loop-member : goal.invariant-loop-member
invariant-loop-member l = (f : Table) (t : DataType) (ms : Members) → TellsApart f → Tells f t l.kind → AreMembers f l.self.list.items ms l.members →
    LeftAmong f l.self.list.items t ms (drop l.member-index l.members)
