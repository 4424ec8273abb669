-- An operator with two values.
use Rattle.runner.proofs.Operators.{both_operands, both_works, both_traps}
use Rattle.runner.proofs.values.both.Goals as goal

pub operate-requires : goal.operate-requires
operate-requires c = both_operands c.args.op c.args.stack.now c.args.top _ _ _ c.requires c.two_at.ensures

pub returns-in-Ok-clause-works : goal.returns-in-Ok-clause-works
returns-in-Ok-clause-works c = λ plans s w st fine. both_works c.args.op _ _ _ _ c.two_at.ensures plans s w st fine _ _ c.in-Ok.ensures c.push.ensures

pub returns-in-Err-clause-works : goal.returns-in-Err-clause-works
returns-in-Err-clause-works c = λ plans s w st fine. both_traps c.args.op _ _ _ _ c.two_at.ensures plans s w st fine _ c.in-Err.ensures
