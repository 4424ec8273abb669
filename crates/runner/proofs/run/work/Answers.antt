-- Each instruction by itself.
use Rattle.std.proofs.Common.{subst, sym, rules, w64}
use Rattle.std.specs.Prelude.{Ok}
use mir.Val.{SFits}
use Rattle.std.proofs.lemmas.Int.{to_z-of_z}
use Rattle.ground.specs.Arithmetic.{IsInRange}
use Rattle.ground.specs.Content.{Whole}
use Rattle.stack_code.specs.Instructions.{Push}
use Rattle.stack_code.specs.Views.{instruction_of}
use Rattle.runner.specs.Work.{MayWork, Works}
use Rattle.runner.specs.Running.{HasRange}
use Rattle.runner.proofs.run.work.Goals as goal

pub push_integer-requires-clause-work : goal.push_integer-requires-clause-work
push_integer-requires-clause-work c = let fits : SFits w64 c.in-PushInt.number = search rules in subst (λ n. MayWork (Push (Whole n)) c.args.stack.now c.args.top) (sym (to_z-of_z w64 c.in-PushInt.number fits)) (subst (λ op. MayWork (instruction_of op) c.args.stack.now c.args.top) c.in-PushInt.is c.requires.work)

pub push_integer-requires-clause-small : goal.push_integer-requires-clause-small
push_integer-requires-clause-small c = let fits : SFits w64 c.in-PushInt.number = search rules in subst IsInRange (sym (to_z-of_z w64 c.in-PushInt.number fits)) (subst (λ op. HasRange (instruction_of op)) c.in-PushInt.is c.requires.ranges)

pub returns-in-PushInt-clause-works : goal.returns-in-PushInt-clause-works
returns-in-PushInt-clause-works c = let fits : SFits w64 c.in-PushInt.number = search rules in subst (λ op. Works (instruction_of op) c.args.stack.now c.args.top c.push_integer.new.stack (Ok c.push_integer.result)) (sym c.in-PushInt.is) (subst (λ n. Works (Push (Whole n)) c.args.stack.now c.args.top c.push_integer.new.stack (Ok c.push_integer.result)) (to_z-of_z w64 c.in-PushInt.number fits) c.push_integer.ensures.works)

pub push_truth-requires : goal.push_truth-requires
push_truth-requires c = record { work = subst (λ op. MayWork (instruction_of op) c.args.stack.now c.args.top) c.in-PushLog.is c.requires.work }

pub returns-in-PushLog-clause-works : goal.returns-in-PushLog-clause-works
returns-in-PushLog-clause-works c = subst (λ op. Works (instruction_of op) c.args.stack.now c.args.top c.push_truth.new.stack (Ok c.push_truth.result)) (sym c.in-PushLog.is) c.push_truth.ensures.works

pub minus-requires : goal.minus-requires
minus-requires c = subst (λ op. MayWork (instruction_of op) c.args.stack.now c.args.top) c.in-Minus.is c.requires.work

pub returns-in-Minus-clause-works : goal.returns-in-Minus-clause-works
returns-in-Minus-clause-works c = subst (λ op. Works (instruction_of op) c.args.stack.now c.args.top c.minus.new.stack (Ok c.minus.result)) (sym c.in-Minus.is) c.minus.ensures.works

pub not-requires : goal.not-requires
not-requires c = subst (λ op. MayWork (instruction_of op) c.args.stack.now c.args.top) c.in-Not.is c.requires.work

pub returns-in-Not-clause-works : goal.returns-in-Not-clause-works
returns-in-Not-clause-works c = subst (λ op. Works (instruction_of op) c.args.stack.now c.args.top c.not.new.stack (Ok c.not.result)) (sym c.in-Not.is) c.not.ensures.works

pub element-requires : goal.element-requires
element-requires c = subst (λ op. MayWork (instruction_of op) c.args.stack.now c.args.top) c.in-Element.is c.requires.work

pub returns-in-Element-clause-works : goal.returns-in-Element-clause-works
returns-in-Element-clause-works c = subst (λ op. Works (instruction_of op) c.args.stack.now c.args.top c.element.new.stack c.element.result) (sym c.in-Element.is) c.element.ensures.works

pub known-requires-clause-takes : goal.known-requires-clause-takes
known-requires-clause-takes c = subst (λ op. HasRange (instruction_of op)) c.in-Known.is c.requires.ranges

pub known-requires-clause-work : goal.known-requires-clause-work
known-requires-clause-work c = subst (λ op. MayWork (instruction_of op) c.args.stack.now c.args.top) c.in-Known.is c.requires.work

pub returns-in-Known-clause-works : goal.returns-in-Known-clause-works
returns-in-Known-clause-works c = subst (λ op. Works (instruction_of op) c.args.stack.now c.args.top c.known.new.stack c.known.result) (sym c.in-Known.is) c.known.ensures.works
