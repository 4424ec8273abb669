-- A dummy's spot.
use Rattle.std.proofs.Common.{arith}
use Rattle.runner.proofs.FrameArms.{dummy_there, dummy_room, dummy_works}
use Rattle.runner.proofs.frames.dummy.Goals as goal

pub overflow_add-at : goal.overflow_add-at
overflow_add-at c = let there = dummy_there c.args.number c.args.stack.now c.args.top c.args.spots.now c.args.base c.requires in omega arith

pub word_in-requires : goal.word_in-requires
word_in-requires c = dummy_there c.args.number c.args.stack.now c.args.top c.args.spots.now c.args.base c.requires

pub push-requires : goal.push-requires
push-requires c = dummy_room c.args.number c.args.stack.now c.args.top c.args.spots.now c.args.base c.requires

pub returns-clause-finds : goal.returns-clause-finds
returns-clause-finds c = λ plans s w st l fine. dummy_works c.args.number _ _ c.args.spots.now c.args.base _ c.word_in.ensures c.push.ensures plans s w st l fine

pub returns-clause-room : goal.returns-clause-room
returns-clause-room c = let room = dummy_room c.args.number c.args.stack.now c.args.top c.args.spots.now c.args.base c.requires in omega arith
