-- One more entry.
use Rattle.std.proofs.Common.{false, refl, arith}
use Rattle.stack_code.specs.Instructions as i
use Rattle.stack_code.specs.StackMachine.{At, spot}
use Rattle.runner.proofs.Pushes.{push_room, push_works}
use Rattle.runner.proofs.values.push_spot.Goals as goal

pub push-requires : goal.push-requires
push-requires c = push_room (i.PushSpot c.args.first c.args.size) (At (spot c.args.first c.args.size false)) c.args.stack.now c.args.top (λ plans s w. refl) c.requires.work

pub returns-clause-works : goal.returns-clause-works
returns-clause-works c = λ plans s w st fine. push_works (At (spot c.args.first c.args.size false)) _ s w _ _ st c.first_of.ensures c.push.ensures

pub returns-clause-room : goal.returns-clause-room
returns-clause-room c =
    let room = push_room (i.PushSpot c.args.first c.args.size) (At (spot c.args.first c.args.size false)) c.args.stack.now c.args.top (λ plans s w. refl) c.requires.work in
    omega arith
