-- Each branch by itself.
use Rattle.std.proofs.Common.{subst, sym}
use Rattle.std.specs.Prelude.{Ok}
use Rattle.stack_code.specs.Instructions as i
use Rattle.stack_code.specs.Views.{instruction_of}
use Rattle.runner.specs.Work.{Leaps, IsWayOf}
use Rattle.runner.proofs.branches.leap.Goals as goal

pub returns-in-JumpFalse-clause-leaps : goal.returns-in-JumpFalse-clause-leaps
returns-in-JumpFalse-clause-leaps c = subst (λ op. Leaps (instruction_of op) c.args.pc c.args.stack.now c.args.top (Ok c.jump_false.result)) (sym c.in-JumpFalse.is) c.jump_false.ensures.leaps

pub returns-in-JumpSign-clause-leaps : goal.returns-in-JumpSign-clause-leaps
returns-in-JumpSign-clause-leaps c = subst (λ op. Leaps (instruction_of op) c.args.pc c.args.stack.now c.args.top (Ok c.jump_sign.result)) (sym c.in-JumpSign.is) (c.jump_sign.ensures.leaps c.args.pc)

pub returns-in-JumpSign-clause-way : goal.returns-in-JumpSign-clause-way
returns-in-JumpSign-clause-way c = subst (λ op. IsWayOf (instruction_of op) c.args.pc (Ok c.jump_sign.result)) (sym c.in-JumpSign.is) (c.jump_sign.ensures.way c.args.pc)

pub returns-in-JumpTable-clause-leaps : goal.returns-in-JumpTable-clause-leaps
returns-in-JumpTable-clause-leaps c = subst (λ op. Leaps (instruction_of op) c.args.pc c.args.stack.now c.args.top c.jump_table.result) (sym c.in-JumpTable.is) (subst (λ ts. Leaps (i.JumpTable ts) c.args.pc c.args.stack.now c.args.top c.jump_table.result) c.deref.ensures.value (c.jump_table.ensures.leaps c.args.pc))

pub returns-in-JumpTable-clause-way : goal.returns-in-JumpTable-clause-way
returns-in-JumpTable-clause-way c = subst (λ op. IsWayOf (instruction_of op) c.args.pc c.jump_table.result) (sym c.in-JumpTable.is) (subst (λ ts. IsWayOf (i.JumpTable ts) c.args.pc c.jump_table.result) c.deref.ensures.value (c.jump_table.ensures.way c.args.pc))
