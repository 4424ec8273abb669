-- Lists of other lengths do not agree.
use Rattle.std.proofs.Common.{arith}
use Rattle.std.proofs.lemmas.Grind.{common_steps}
use Rattle.efl_scope.proofs.AreaLemmas.{unequal_lists}
use Rattle.efl_scope.proofs.areas.do_agree.Goals as goal

pub returns-then-first-list : goal.returns-then-first-list
returns-then-first-list c = unequal_lists c.args.first.now c.args.list.now (grind (arith, c.if-first-list.true))

pub loop-i-preserved : goal.loop-i-preserved
loop-i-preserved c = grind (arith, common_steps)
