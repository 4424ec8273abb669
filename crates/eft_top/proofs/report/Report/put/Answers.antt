-- The counts, and then the line.
use Rattle.std.proofs.Common.{Err, sym, subst, ◌++◌}
use Rattle.eft_top.specs.Delivery.{Delivers}
use Rattle.eft_top.specs.Report.{counts_bytes, line_bytes}
use Rattle.eft_top.proofs.Delivery.{both, stopped}
use Rattle.eft_top.proofs.report.Report.put.Goals as goal

pub returns-in-Ok : goal.returns-in-Ok
returns-in-Ok g c =
    subst (λ counts. Delivers g.D.Sink.puts g.D.Sink.faults c.args.diag.now c.put-in-Ok.new.diag (counts_bytes counts ++ line_bytes c.args.self.now.line) c.put-in-Ok.result) (sym c.in-Some.is)
    (both g.D.Sink.puts g.D.Sink.faults g.met.D.Sink.in_a_row _ _ _ _ _ _ _ _ c.in-Ok.is c.put_counts.ensures c.put-in-Ok.ensures)

pub returns-in-Err : goal.returns-in-Err
returns-in-Err g c =
    subst (λ counts. Delivers {T = Unit {0}} g.D.Sink.puts g.D.Sink.faults c.args.diag.now c.put_counts.new.diag (counts_bytes counts ++ line_bytes c.args.self.now.line) (Err c.in-Err.field-0)) (sym c.in-Some.is)
    (stopped g.D.Sink.puts g.D.Sink.faults _ _ _ _ _ _ _ c.in-Err.is c.put_counts.ensures)
