-- Units that go out or come in as characters are steps of a row.
use Rattle.std.proofs.Common.{◌<◌, ◌+◌, ◌-◌, arith}
use Rattle.runner.proofs.Lettered.{units_sent, units_got}
use Rattle.runner.proofs.letters.letters.Goals as goal

pub returns-in-Reading-clause-moves : goal.returns-in-Reading-clause-moves
returns-in-Reading-clause-moves c =
    let from = c.unit_of.result + c.args.index in
    let size = c.block_size-size.result in
    let some : 0 < size = let ne = c.if-size-eq0.false in omega (arith, ne) in
    let l = c.take_units-moved.ensures.letters in
    units_got c.args.word c.unit_of.result c.args.index size c.unit_of.ensures some (c.block_size-size.ensures.units c.unit_of.result c.unit_of.ensures some) c.args.cells.now c.requires.spot c.args.way c.take_units-moved.result (from + size - from) c.args.plan.now c.args.flow.now.stand c.take_units-moved.new.flow.stand l.0 (omega arith) c.take_units-moved.ensures.within c.take_units-moved.new.units c.in-Reading.is l.1 l.2 l.3 l.4

pub returns-in-Writing-clause-moves : goal.returns-in-Writing-clause-moves
returns-in-Writing-clause-moves c =
    let from = c.unit_of.result + c.args.index in
    let size = c.block_size-size.result in
    let some : 0 < size = let ne = c.if-size-eq0.false in omega (arith, ne) in
    let l = c.put_units-moved.ensures.letters in
    units_sent c.args.word c.unit_of.result c.args.index size c.unit_of.ensures some (c.block_size-size.ensures.units c.unit_of.result c.unit_of.ensures some) c.args.cells.now c.requires.spot c.args.way c.put_units-moved.result (from + size - from) c.args.plan.now c.args.flow.now.stand c.put_units-moved.new.flow.stand l.0 (omega arith) c.put_units-moved.ensures.within c.in-Writing.is l.2 l.3
