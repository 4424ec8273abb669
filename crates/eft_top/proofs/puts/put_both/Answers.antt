-- The first piece, and then the second.
use Rattle.eft_top.proofs.Delivery.{both, stopped}
use Rattle.eft_top.proofs.puts.put_both.Goals as goal

pub returns-in-Ok : goal.returns-in-Ok
returns-in-Ok g c = both g.K.Sink.puts g.K.Sink.faults g.met.K.Sink.in_a_row _ _ _ _ _ _ _ _ c.in-Ok.is c.put_all.ensures c.put_all-in-Ok.ensures

pub returns-in-Err : goal.returns-in-Err
returns-in-Err g c = stopped g.K.Sink.puts g.K.Sink.faults _ _ _ _ _ _ _ c.in-Err.is c.put_all.ensures
