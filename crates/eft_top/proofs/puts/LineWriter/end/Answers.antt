-- What is in hand is put.
use Rattle.std.proofs.Common.{subst, ℕ, List, Bool}
use Rattle.eft_top.specs.Delivery.{Delivers, IsOnItsWay}
use Rattle.eft_top.proofs.Delivery.{ended, failed_end}
use Rattle.eft_top.proofs.puts.LineWriter.end.Goals as goal

pub returns : goal.returns
returns g c begun line way =
    let hand = c.args.self.hand.items in
    ended g.K.Sink.puts g.K.Sink.faults g.met.K.Sink.in_a_row begun _ _ line hand c.put_all.result
    (subst (λ (failed : Bool). IsOnItsWay g.K.Sink.puts g.K.Sink.faults begun line c.args.sink.now hand failed) c.if-self.false way)
    (subst (λ (bytes : List ℕ). Delivers g.K.Sink.puts g.K.Sink.faults c.args.sink.now c.put_all.new.sink bytes c.put_all.result) c.deref.ensures.0 c.put_all.ensures)

pub returns-then-self : goal.returns-then-self
returns-then-self g c begun line way =
    failed_end g.K.Sink.puts g.K.Sink.faults begun _ line c.args.self.hand.items _
    (subst (λ (failed : Bool). IsOnItsWay g.K.Sink.puts g.K.Sink.faults begun line c.args.sink.now c.args.self.hand.items failed) c.if-self.true way)
