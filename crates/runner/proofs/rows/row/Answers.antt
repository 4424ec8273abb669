-- Unit after unit, characters several at once.
use Rattle.std.proofs.Common.{refl, ◌≡◌, ◌+◌, ◌∙◌, ◌<◌, ◌≤◌, rules, arith}
use Rattle.runner.specs.Reaching.{Same}
use Rattle.runner.proofs.RowSteps.{row_begun, row_moves, row_done, row_past, row_on, row_stops, shifted_spot, next_few, spot_in_all}
use Rattle.runner.proofs.rows.row.Goals as goal

pub units-init : goal.units-init
units-init g c = record { since = row_begun g.S.Source.left g.K.Sink.puts g.S.Source.faults g.K.Sink.faults g.met.K.Sink.nothing g.met.K.Sink.in_a_row c.args.way c.args.kind c.args.word c.args.plan.now c.args.input.now c.args.out.now c.args.flow.now c.args.cells.now; within = omega arith; spot = c.requires.spot; way = c.requires.way; going = c.requires.going; units = refl }

pub units-preserved-then-moved-gt0 : goal.units-preserved-then-moved-gt0
units-preserved-then-moved-gt0 g c = record {
  since = row_moves g.S.Source.left g.K.Sink.puts g.S.Source.faults g.K.Sink.faults g.met.K.Sink.nothing g.met.K.Sink.in_a_row c.args.way c.args.kind c.args.word c.args.plan.now c.args.input.now c.units.input c.units.input c.args.out.now c.units.out c.units.out c.args.flow.now c.units.flow c.units_at_once-moved.new.flow c.args.cells.now c.units.cells c.units_at_once-moved.new.cells c.units.index c.units.invariant.since c.units_at_once-moved.result (c.units.index + c.units_at_once-moved.result) refl (c.units_at_once-moved.ensures.few c.units.invariant.since.few) c.units_at_once-moved.ensures.intake c.units_at_once-moved.ensures.moves;
  within = c.units_at_once-moved.ensures.within;
  spot = spot_in_all c.units.cells c.units_at_once-moved.new.cells c.args.word c.units_at_once-moved.ensures.units c.units.invariant.spot;
  way = c.units_at_once-moved.ensures.way;
  going = c.units_at_once-moved.ensures.going c.units.invariant.going;
  units = c.units_at_once-moved.ensures.units ∙ c.units.invariant.units;
}

pub returns-in-None-clause-step : goal.returns-in-None-clause-step
returns-in-None-clause-step g c m alike =
    let none : c.units_at_once-moved.result ≡ 0 = let f = c.if-moved-gt0.false in omega (arith, f) in
    let since = row_moves g.S.Source.left g.K.Sink.puts g.S.Source.faults g.K.Sink.faults g.met.K.Sink.nothing g.met.K.Sink.in_a_row c.args.way c.args.kind c.args.word c.args.plan.now c.args.input.now c.units.input c.units.input c.args.out.now c.units.out c.units.out c.args.flow.now c.units.flow c.units_at_once-moved.new.flow c.args.cells.now c.units.cells c.units_at_once-moved.new.cells c.units.index c.units.invariant.since c.units_at_once-moved.result c.units.index (omega (arith, none)) (c.units_at_once-moved.ensures.few c.units.invariant.since.few) c.units_at_once-moved.ensures.intake c.units_at_once-moved.ensures.moves in
    let lt : c.units.index < c.args.count = search rules in
    row_past g.S.Source.left g.K.Sink.puts g.S.Source.faults g.K.Sink.faults g.met.K.Sink.nothing g.met.K.Sink.in_a_row c.args.way c.args.kind c.args.word c.args.plan.now c.args.input.now c.units.input c.units.input c.args.out.now c.units.out c.units.out c.args.flow.now c.units_at_once-moved.new.flow c.units_at_once-moved.new.flow c.args.cells.now c.units_at_once-moved.new.cells c.units_at_once-moved.new.cells c.units.index since c.args.count m lt c.requires.few alike (λ p shows. c.in-None.ensures p c.units.index shows (Same refl))

pub item-requires-clause-spot : goal.item-requires-clause-spot
item-requires-clause-spot g c =
    let spot = spot_in_all c.units.cells c.units_at_once-moved.new.cells c.args.word c.units_at_once-moved.ensures.units c.units.invariant.spot in
    shifted_spot c.units_at_once-moved.new.cells c.args.word c.in-Some.spot c.units.index spot (c.in-Some.ensures spot.spot c.units.index spot.shows (Same refl))

pub returns-in-Err-clause-step : goal.returns-in-Err-clause-step
returns-in-Err-clause-step g c m alike =
    let none : c.units_at_once-moved.result ≡ 0 = let f = c.if-moved-gt0.false in omega (arith, f) in
    let since = row_moves g.S.Source.left g.K.Sink.puts g.S.Source.faults g.K.Sink.faults g.met.K.Sink.nothing g.met.K.Sink.in_a_row c.args.way c.args.kind c.args.word c.args.plan.now c.args.input.now c.units.input c.units.input c.args.out.now c.units.out c.units.out c.args.flow.now c.units.flow c.units_at_once-moved.new.flow c.args.cells.now c.units.cells c.units_at_once-moved.new.cells c.units.index c.units.invariant.since c.units_at_once-moved.result c.units.index (omega (arith, none)) (c.units_at_once-moved.ensures.few c.units.invariant.since.few) c.units_at_once-moved.ensures.intake c.units_at_once-moved.ensures.moves in
    let lt : c.units.index < c.args.count = search rules in
    row_stops g.S.Source.left g.K.Sink.puts g.S.Source.faults g.K.Sink.faults g.met.K.Sink.nothing g.met.K.Sink.in_a_row c.args.way c.args.kind c.args.word c.args.plan.now c.args.input.now c.units.input c.item.new.input c.args.out.now c.units.out c.item.new.out c.args.flow.now c.units_at_once-moved.new.flow c.item.new.flow c.args.cells.now c.units_at_once-moved.new.cells c.item.new.cells c.units.index since c.in-Some.spot (λ p shows. c.in-Some.ensures p c.units.index shows (Same refl)) c.args.count m lt c.requires.few alike c.in-Err.stop c.in-Err.ensures.step

pub units-preserved : goal.units-preserved
units-preserved g c =
    let none : c.units_at_once-moved.result ≡ 0 = let f = c.if-moved-gt0.false in omega (arith, f) in
    let since = row_moves g.S.Source.left g.K.Sink.puts g.S.Source.faults g.K.Sink.faults g.met.K.Sink.nothing g.met.K.Sink.in_a_row c.args.way c.args.kind c.args.word c.args.plan.now c.args.input.now c.units.input c.units.input c.args.out.now c.units.out c.units.out c.args.flow.now c.units.flow c.units_at_once-moved.new.flow c.args.cells.now c.units.cells c.units_at_once-moved.new.cells c.units.index c.units.invariant.since c.units_at_once-moved.result c.units.index (omega (arith, none)) (c.units_at_once-moved.ensures.few c.units.invariant.since.few) c.units_at_once-moved.ensures.intake c.units_at_once-moved.ensures.moves in
    let spot = spot_in_all c.units.cells c.units_at_once-moved.new.cells c.args.word c.units_at_once-moved.ensures.units c.units.invariant.spot in
    let few = next_few c.units_at_once-moved.new.cells c.args.word c.in-Some.spot c.units.index spot (c.in-Some.ensures spot.spot c.units.index spot.shows (Same refl)) in
    record {
      since = row_on g.S.Source.left g.K.Sink.puts g.S.Source.faults g.K.Sink.faults g.met.K.Sink.nothing g.met.K.Sink.in_a_row c.args.way c.args.kind c.args.word c.args.plan.now c.args.input.now c.units.input c.item.new.input c.args.out.now c.units.out c.item.new.out c.args.flow.now c.units_at_once-moved.new.flow c.item.new.flow c.args.cells.now c.units_at_once-moved.new.cells c.item.new.cells c.units.index since c.in-Some.spot (λ p shows. c.in-Some.ensures p c.units.index shows (Same refl)) few c.in-Ok.ensures.step;
      within = let lt : c.units.index < c.args.count = search rules in omega (arith, lt);
      spot = spot_in_all c.units_at_once-moved.new.cells c.item.new.cells c.args.word c.in-Ok.ensures.units spot;
      way = c.in-Ok.ensures.way;
      going = c.in-Ok.ensures.going;
      units = c.in-Ok.ensures.units ∙ c.units_at_once-moved.ensures.units ∙ c.units.invariant.units;
    }

pub returns-clause-step : goal.returns-clause-step
returns-clause-step g c m alike =
    let past : c.args.count ≤ c.units.index = let f = c.units-test.false in omega (arith, f) in
    let within = c.units.invariant.within in
    row_done g.S.Source.left g.K.Sink.puts g.S.Source.faults g.K.Sink.faults g.met.K.Sink.nothing g.met.K.Sink.in_a_row c.args.way c.args.kind c.args.word c.args.plan.now c.args.input.now c.units.input c.units.input c.args.out.now c.units.out c.units.out c.args.flow.now c.units.flow c.units.flow c.args.cells.now c.units.cells c.units.cells c.units.index c.units.invariant.since c.args.count m (omega (arith, past, within)) alike
