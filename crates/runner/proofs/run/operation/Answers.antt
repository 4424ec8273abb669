-- Each operator by itself.
use Rattle.std.proofs.Common.{subst, sym}
use Rattle.stack_code.specs.Instructions.{Compare}
use Rattle.stack_code.specs.Views.{instruction_of}
use Rattle.runner.specs.Work.{MayWork, Works}
use Rattle.runner.proofs.run.operation.Goals as goal

pub arithmetic-requires-clause-work : goal.arithmetic-requires-clause-work
arithmetic-requires-clause-work c = subst (λ op. MayWork (instruction_of op) c.args.stack.now c.args.top) c.in-Add.is c.requires.work

pub returns-in-Add-clause-works : goal.returns-in-Add-clause-works
returns-in-Add-clause-works c = subst (λ op. Works (instruction_of op) c.args.stack.now c.args.top c.arithmetic.new.stack c.arithmetic.result) (sym c.in-Add.is) c.arithmetic.ensures.works

pub arithmetic-requires-in-Sub-clause-work : goal.arithmetic-requires-in-Sub-clause-work
arithmetic-requires-in-Sub-clause-work c = subst (λ op. MayWork (instruction_of op) c.args.stack.now c.args.top) c.in-Sub.is c.requires.work

pub returns-in-Sub-clause-works : goal.returns-in-Sub-clause-works
returns-in-Sub-clause-works c = subst (λ op. Works (instruction_of op) c.args.stack.now c.args.top c.arithmetic-in-Sub.new.stack c.arithmetic-in-Sub.result) (sym c.in-Sub.is) c.arithmetic-in-Sub.ensures.works

pub arithmetic-requires-in-Mul-clause-work : goal.arithmetic-requires-in-Mul-clause-work
arithmetic-requires-in-Mul-clause-work c = subst (λ op. MayWork (instruction_of op) c.args.stack.now c.args.top) c.in-Mul.is c.requires.work

pub returns-in-Mul-clause-works : goal.returns-in-Mul-clause-works
returns-in-Mul-clause-works c = subst (λ op. Works (instruction_of op) c.args.stack.now c.args.top c.arithmetic-in-Mul.new.stack c.arithmetic-in-Mul.result) (sym c.in-Mul.is) c.arithmetic-in-Mul.ensures.works

pub arithmetic-requires-in-Div-clause-work : goal.arithmetic-requires-in-Div-clause-work
arithmetic-requires-in-Div-clause-work c = subst (λ op. MayWork (instruction_of op) c.args.stack.now c.args.top) c.in-Div.is c.requires.work

pub returns-in-Div-clause-works : goal.returns-in-Div-clause-works
returns-in-Div-clause-works c = subst (λ op. Works (instruction_of op) c.args.stack.now c.args.top c.arithmetic-in-Div.new.stack c.arithmetic-in-Div.result) (sym c.in-Div.is) c.arithmetic-in-Div.ensures.works

pub arithmetic-requires-in-Pow-clause-work : goal.arithmetic-requires-in-Pow-clause-work
arithmetic-requires-in-Pow-clause-work c = subst (λ op. MayWork (instruction_of op) c.args.stack.now c.args.top) c.in-Pow.is c.requires.work

pub returns-in-Pow-clause-works : goal.returns-in-Pow-clause-works
returns-in-Pow-clause-works c = subst (λ op. Works (instruction_of op) c.args.stack.now c.args.top c.arithmetic-in-Pow.new.stack c.arithmetic-in-Pow.result) (sym c.in-Pow.is) c.arithmetic-in-Pow.ensures.works

pub both-requires : goal.both-requires
both-requires c = subst (λ op. MayWork (instruction_of op) c.args.stack.now c.args.top) c.in-And.is c.requires.work

pub returns-in-And-clause-works : goal.returns-in-And-clause-works
returns-in-And-clause-works c = subst (λ op. Works (instruction_of op) c.args.stack.now c.args.top c.both.new.stack c.both.result) (sym c.in-And.is) c.both.ensures.works

pub both-requires-in-Or : goal.both-requires-in-Or
both-requires-in-Or c = subst (λ op. MayWork (instruction_of op) c.args.stack.now c.args.top) c.in-Or.is c.requires.work

pub returns-in-Or-clause-works : goal.returns-in-Or-clause-works
returns-in-Or-clause-works c = subst (λ op. Works (instruction_of op) c.args.stack.now c.args.top c.both-in-Or.new.stack c.both-in-Or.result) (sym c.in-Or.is) c.both-in-Or.ensures.works

pub both-requires-in-Compare : goal.both-requires-in-Compare
both-requires-in-Compare c =
    let m : MayWork (Compare c.in-Compare.op) c.args.stack.now c.args.top = subst (λ op. MayWork (instruction_of op) c.args.stack.now c.args.top) c.in-Compare.is c.requires.work in
    record { plans = m.plans; core = m.core; world = m.world; stand = m.stand; within = m.within; right = m.right }

pub returns-in-Compare-clause-works : goal.returns-in-Compare-clause-works
returns-in-Compare-clause-works c = subst (λ op. Works (instruction_of op) c.args.stack.now c.args.top c.both-in-Compare.new.stack c.both-in-Compare.result) (sym c.in-Compare.is) c.both-in-Compare.ensures.works
