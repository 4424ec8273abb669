-- One more entry.
use Rattle.std.proofs.Common.{refl, arith, subst, rules, w64}
use Rattle.std.proofs.lemmas.Int.{to_z-of_z}
use Rattle.runner.specs.Words.{IsWholeWord}
use Rattle.ground.specs.Content.{Whole}
use Rattle.stack_code.specs.Instructions as i
use Rattle.stack_code.specs.StackMachine.{Val}
use Rattle.runner.proofs.Pushes.{push_room, push_works}
use Rattle.runner.proofs.values.push_integer.Goals as goal

pub push-requires : goal.push-requires
push-requires c = push_room (i.Push (Whole c.args.number)) (Val (Whole c.args.number)) c.args.stack.now c.args.top (λ plans s w. refl) c.requires.work

pub returns-clause-works : goal.returns-clause-works
returns-clause-works c = λ plans s w st fine. push_works (Val (Whole c.args.number)) _ s w _ _ st (subst (λ n. IsWholeWord n c.whole.result) (to_z-of_z w64 c.args.number (search rules)) c.whole.ensures) c.push.ensures

pub returns-clause-room : goal.returns-clause-room
returns-clause-room c =
    let room = push_room (i.Push (Whole c.args.number)) (Val (Whole c.args.number)) c.args.stack.now c.args.top (λ plans s w. refl) c.requires.work in
    omega arith
