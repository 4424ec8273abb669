-- All units of an array are items.
use Rattle.std.proofs.Common.{◌-◌, refl, arith}
use Rattle.stack_code.specs.Instructions.{Row}
use Rattle.stack_code.specs.StackMachine.{row}
use Rattle.runner.proofs.Opening.{open_row}
use Rattle.runner.proofs.ItemArms.{spot_goes, spot_stops, open_plan, open_hand, open_after}
use Rattle.runner.proofs.RowArms.{row_tall, row_spot, row_spotted, row_none, row_outside, many, none}
use Rattle.runner.proofs.records.row_at.Goals as goal

pub overflow_sub-at : goal.overflow_sub-at
overflow_sub-at g c = let t = row_tall c.args.way c.args.kind c.args.count c.args.stack.now c.args.top c.requires.hold.work.within c.args.cells.now c.requires.hold in omega arith

pub extent_of-requires : goal.extent_of-requires
extent_of-requires g c =
    let t = row_tall c.args.way c.args.kind c.args.count c.args.stack.now c.args.top c.requires.hold.work.within c.args.cells.now c.requires.hold in
    let l = c.requires.hold.work.within in
    omega arith

pub word_at-spot-requires-clause-some : goal.word_at-spot-requires-clause-some
word_at-spot-requires-clause-some g c = let t = row_tall c.args.way c.args.kind c.args.count c.args.stack.now c.args.top c.requires.hold.work.within c.args.cells.now c.requires.hold in omega arith

pub bounds-plans-plan : goal.bounds-plans-plan
bounds-plans-plan g c = open_plan c.args.plans.now c.args.plan c.args.way c.requires.act.among c.requires.act.after c.requires.act.hand c.args.flow.now.stand c.requires.act.in_hand (open_row c.args.way c.args.kind c.args.count c.requires.act.among c.requires.act.after c.requires.act.opened)

pub offset_bounds-plans-plan : goal.offset_bounds-plans-plan
offset_bounds-plans-plan g c =
    let p = open_plan c.args.plans.now c.args.plan c.args.way c.requires.act.among c.requires.act.after c.requires.act.hand c.args.flow.now.stand c.requires.act.in_hand (open_row c.args.way c.args.kind c.args.count c.requires.act.among c.requires.act.after c.requires.act.opened) in
    grind (arith, p)

pub row-requires-clause-spot : goal.row-requires-clause-spot
row-requires-clause-spot g c = row_spot c.args.way c.args.kind c.args.count c.args.stack.now c.args.top c.requires.hold.work.within (c.args.top - c.args.count) refl c.word_at-spot.result c.word_at-spot.ensures c.args.cells.now c.requires.hold

pub returns-in-None-clause-acts : goal.returns-in-None-clause-acts
returns-in-None-clause-acts g c among after hand held opened =
    let m = row_none c.args.way c.args.kind c.args.count c.args.stack.now c.args.top c.requires.hold.work.within (c.args.top - c.args.count) refl (none c.args.stack.now (c.args.top - c.args.count) c.args.count c.in-None.ensures.is) c.args.plans.now in
    row_outside g.S.Source.left g.K.Sink.puts g.S.Source.faults g.K.Sink.faults g.met.K.Sink.nothing c.args.input.now c.args.out.now c.args.plans.now (Row c.args.way c.args.kind c.args.count) after hand c.args.flow.now c.args.stack.now c.args.top c.args.cells.now m

pub returns-in-Ok-clause-acts : goal.returns-in-Ok-clause-acts
returns-in-Ok-clause-acts g c among after hand held opened =
    let m = many c.args.stack.now (c.args.top - c.args.count) c.args.count c.in-Some.far c.in-Some.ensures.is in
    let there = open_row c.args.way c.args.kind c.args.count among after opened in
    spot_goes g.S.Source.left g.K.Sink.puts g.S.Source.faults g.K.Sink.faults c.args.input.now c.row.new.input c.args.out.now c.row.new.out c.args.plans.now c.args.plan (Row c.args.way c.args.kind c.args.count) (λ p place. row place c.args.way c.args.kind p m.m 0) c.word_at-spot.result c.index-plans-plan.result c.args.flow.now c.row.new.flow c.args.stack.now c.args.top (c.args.top - c.args.count - 1) c.args.cells.now c.row.new.cells (row_spotted c.args.way c.args.kind c.args.count c.args.stack.now c.args.top c.requires.hold.work.within (c.args.top - c.args.count) refl c.word_at-spot.result c.word_at-spot.ensures m.m m.is c.args.plans.now) after hand (open_hand c.args.plans.now c.args.plan c.args.way among after hand c.args.flow.now.stand held there c.index-plans-plan.result c.index-plans-plan.is) (open_after c.args.plans.now c.args.plan c.args.way among after hand c.args.flow.now.stand held there c.index-plans-plan.result c.index-plans-plan.is c.row.new.flow.stand c.in-Ok.ensures.way c.in-Ok.ensures.going) (c.in-Ok.ensures.step m.m m.alike)

pub returns-in-Err-clause-acts : goal.returns-in-Err-clause-acts
returns-in-Err-clause-acts g c among after hand held opened =
    let m = many c.args.stack.now (c.args.top - c.args.count) c.args.count c.in-Some.far c.in-Some.ensures.is in
    let there = open_row c.args.way c.args.kind c.args.count among after opened in
    spot_stops g.S.Source.left g.K.Sink.puts g.S.Source.faults g.K.Sink.faults c.args.input.now c.row.new.input c.args.out.now c.row.new.out c.args.plans.now c.args.plan (Row c.args.way c.args.kind c.args.count) (λ p place. row place c.args.way c.args.kind p m.m 0) c.word_at-spot.result c.index-plans-plan.result c.args.flow.now c.row.new.flow c.args.stack.now c.args.top (c.args.top - c.args.count - 1) c.args.cells.now c.row.new.cells (row_spotted c.args.way c.args.kind c.args.count c.args.stack.now c.args.top c.requires.hold.work.within (c.args.top - c.args.count) refl c.word_at-spot.result c.word_at-spot.ensures m.m m.is c.args.plans.now) after hand (open_hand c.args.plans.now c.args.plan c.args.way among after hand c.args.flow.now.stand held there c.index-plans-plan.result c.index-plans-plan.is) c.in-Err.stop (c.in-Err.ensures.step m.m m.alike)
