-- One more entry.
use Rattle.std.proofs.Common.{refl, arith}
use Rattle.ground.specs.Content.{Truth}
use Rattle.stack_code.specs.Instructions as i
use Rattle.stack_code.specs.StackMachine.{Val}
use Rattle.runner.proofs.Pushes.{push_room, push_works}
use Rattle.runner.proofs.values.push_truth.Goals as goal

pub push-requires : goal.push-requires
push-requires c = push_room (i.Push (Truth c.args.value)) (Val (Truth c.args.value)) c.args.stack.now c.args.top (λ plans s w. refl) c.requires.work

pub returns-clause-works : goal.returns-clause-works
returns-clause-works c = λ plans s w st fine. push_works (Val (Truth c.args.value)) _ s w _ _ st c.truth.ensures c.push.ensures

pub returns-clause-room : goal.returns-clause-room
returns-clause-room c =
    let room = push_room (i.Push (Truth c.args.value)) (Val (Truth c.args.value)) c.args.stack.now c.args.top (λ plans s w. refl) c.requires.work in
    omega arith
