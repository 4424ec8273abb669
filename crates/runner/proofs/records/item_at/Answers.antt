-- The unit of the spot on top is an item.
use Rattle.std.proofs.Common.{◌-◌, refl}
use Rattle.stack_code.specs.Instructions.{Item}
use Rattle.stack_code.specs.StackMachine.{edited}
use Rattle.runner.proofs.Opening.{open_item}
use Rattle.runner.proofs.PlaceArms.{spot_tall}
use Rattle.runner.proofs.ItemArms.{spot_goes, spot_stops, open_way, open_hand, open_after, item_spot, item_spotted, item_among}
use Rattle.runner.proofs.records.item_at.Goals as goal

pub word_at-spot-requires-clause-some : goal.word_at-spot-requires-clause-some
word_at-spot-requires-clause-some g c = spot_tall (Item c.args.way c.args.kind) c.args.stack.now c.args.top c.args.cells.now c.requires.hold _ refl

pub item-requires-clause-spot : goal.item-requires-clause-spot
item-requires-clause-spot g c = item_spot c.args.way c.args.kind c.args.stack.now c.args.top c.args.cells.now c.requires.hold _ c.word_at-spot.result c.word_at-spot.ensures

pub item-requires-clause-way : goal.item-requires-clause-way
item-requires-clause-way g c = open_way c.args.plans.now c.args.plan c.args.way c.requires.act.among c.requires.act.after c.requires.act.hand c.args.flow.now.stand c.requires.act.in_hand (item_among c.args.way c.args.kind c.args.plans.now c.args.plan c.args.flow.now.stand c.requires.act)

pub returns-in-Ok-clause-acts : goal.returns-in-Ok-clause-acts
returns-in-Ok-clause-acts g c among after hand held opened = spot_goes g.S.Source.left g.K.Sink.puts g.S.Source.faults g.K.Sink.faults c.args.input.now c.item.new.input c.args.out.now c.item.new.out c.args.plans.now c.args.plan (Item c.args.way c.args.kind) (λ p place. edited place c.args.way c.args.kind p) c.word_at-spot.result c.index-plans-plan.result c.args.flow.now c.item.new.flow c.args.stack.now c.args.top (c.args.top - 1) c.args.cells.now c.item.new.cells (item_spotted c.args.way c.args.kind c.args.stack.now c.args.top (c.args.top - 1) c.word_at-spot.result c.word_at-spot.ensures c.args.plans.now) after hand (open_hand c.args.plans.now c.args.plan c.args.way among after hand c.args.flow.now.stand held (open_item c.args.way c.args.kind among after opened) c.index-plans-plan.result c.index-plans-plan.is) (open_after c.args.plans.now c.args.plan c.args.way among after hand c.args.flow.now.stand held (open_item c.args.way c.args.kind among after opened) c.index-plans-plan.result c.index-plans-plan.is c.item.new.flow.stand c.in-Ok.ensures.way c.in-Ok.ensures.going) c.in-Ok.ensures.step

pub returns-in-Err-clause-acts : goal.returns-in-Err-clause-acts
returns-in-Err-clause-acts g c among after hand held opened = spot_stops g.S.Source.left g.K.Sink.puts g.S.Source.faults g.K.Sink.faults c.args.input.now c.item.new.input c.args.out.now c.item.new.out c.args.plans.now c.args.plan (Item c.args.way c.args.kind) (λ p place. edited place c.args.way c.args.kind p) c.word_at-spot.result c.index-plans-plan.result c.args.flow.now c.item.new.flow c.args.stack.now c.args.top (c.args.top - 1) c.args.cells.now c.item.new.cells (item_spotted c.args.way c.args.kind c.args.stack.now c.args.top (c.args.top - 1) c.word_at-spot.result c.word_at-spot.ensures c.args.plans.now) after hand (open_hand c.args.plans.now c.args.plan c.args.way among after hand c.args.flow.now.stand held (open_item c.args.way c.args.kind among after opened) c.index-plans-plan.result c.index-plans-plan.is) c.in-Err.stop c.in-Err.ensures.step
