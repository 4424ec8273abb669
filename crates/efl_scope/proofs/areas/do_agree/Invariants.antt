-- Those before agree.
use Rattle.std.proofs.Common.{◌≡◌, drop}
use Rattle.efl_scope.specs.AreaViews.{sorts_agree}
use Rattle.efl_scope.proofs.areas.do_agree.Given as goal

abbrev pub invariant-loop-i : goal.invariant-loop-i
invariant-loop-i l = sorts_agree (drop l.i l.first) (drop l.i l.list) ≡ sorts_agree l.first l.list
