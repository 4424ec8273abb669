-- What came and went since the row began.
use Rattle.std.proofs.Common.{◌≡◌, ◌≤◌, ◌-◌, length, false}
use Rattle.f66_tree.specs.Turns.{is_over}
use Rattle.runner.specs.Exchanges.{IsSpot}
use Rattle.runner.proofs.RowSteps.{RowSince}
use Rattle.runner.proofs.rows.row.Given as goal

abbrev pub invariant-units : goal.invariant-units
invariant-units g l = record {
  since : RowSince g.S.Source.left g.K.Sink.puts g.S.Source.faults g.K.Sink.faults l.fn.input l.input l.fn.out l.out l.way l.kind l.word l.plan l.fn.flow l.flow l.fn.cells l.cells l.index;
  within : l.index ≤ l.count;
  spot : IsSpot l.cells l.word;
  way : l.flow.stand.way ≡ l.way;
  going : is_over l.flow.stand.mark ≡ false;
  units : length l.cells ≡ length l.fn.cells;
}

abbrev pub decreases-units : goal.decreases-units
decreases-units g l = l.count - l.index
