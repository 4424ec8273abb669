-- The values are taken, and what the function makes of them is pushed.
use Rattle.std.proofs.Common.{refl, arith}
use Rattle.runner.proofs.KnownArms.{known_tall, known_arguments, known_traps, known_works, takes_some}
use Rattle.runner.proofs.intrinsics.known.Goals as goal

pub overflow_sub-under : goal.overflow_sub-under
overflow_sub-under c = known_tall c.args.function c.args.count c.args.stack.now c.args.top c.requires.work.within _ c.requires.work.plans c.requires.work.core c.requires.work.world c.requires.work.stand c.requires.work.right

pub intrinsic-requires-clause-within : goal.intrinsic-requires-clause-within
intrinsic-requires-clause-within c =
    let tall = known_tall c.args.function c.args.count c.args.stack.now c.args.top c.requires.work.within _ c.requires.work.plans c.requires.work.core c.requires.work.world c.requires.work.stand c.requires.work.right in
    let within = c.requires.work.within in
    omega arith

pub intrinsic-requires-clause-arguments : goal.intrinsic-requires-clause-arguments
intrinsic-requires-clause-arguments c = known_arguments c.args.function c.args.count c.args.stack.now c.args.top c.requires.work.within _ c.requires.work.plans c.requires.work.core c.requires.work.world c.requires.work.stand c.requires.work.right

pub push-requires : goal.push-requires
push-requires c =
    let tall = known_tall c.args.function c.args.count c.args.stack.now c.args.top c.requires.work.within _ c.requires.work.plans c.requires.work.core c.requires.work.world c.requires.work.stand c.requires.work.right in
    let some = takes_some c.args.function c.args.count c.requires.takes in
    let within = c.requires.work.within in
    omega arith

pub returns-in-Ok-clause-works : goal.returns-in-Ok-clause-works
returns-in-Ok-clause-works c = λ plans s w st fine. known_works c.args.function c.args.count c.args.stack.now c.args.top c.requires.work.within _ plans s w st fine _ c.in-Ok.ensures c.in-Ok.word _ refl c.push.ensures

pub returns-in-Err-clause-works : goal.returns-in-Err-clause-works
returns-in-Err-clause-works c = λ plans s w st fine. known_traps c.args.function c.args.count c.args.stack.now c.args.top c.requires.work.within _ plans s w st fine _ c.in-Err.ensures c.in-Err.trap refl

pub returns-in-Ok-clause-room : goal.returns-in-Ok-clause-room
returns-in-Ok-clause-room c =
    let tall = known_tall c.args.function c.args.count c.args.stack.now c.args.top c.requires.work.within _ c.requires.work.plans c.requires.work.core c.requires.work.world c.requires.work.stand c.requires.work.right in
    let some = takes_some c.args.function c.args.count c.requires.takes in
    let within = c.requires.work.within in
    omega arith
