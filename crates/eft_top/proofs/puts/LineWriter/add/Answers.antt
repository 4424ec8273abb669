-- After a failure nothing more is put; else the piece is in hand, or it goes.
use Rattle.std.proofs.Common.{sym, subst, ◌++◌, ℕ, List, Bool, ◌≡◌, false, rules}
use Rattle.eft_top.specs.Delivery.{IsOnItsWay}
use Rattle.eft_top.proofs.Delivery.{with_more, failed_on}
use Rattle.eft_top.proofs.puts.LineWriter.add.Goals as goal

pub returns-then-self : goal.returns-then-self
returns-then-self g c begun line way =
    let hand = c.args.self.now.hand.items in
    subst (λ (failed : Bool). IsOnItsWay g.K.Sink.puts g.K.Sink.faults begun (line ++ c.args.piece.now) c.args.sink.now hand failed) (sym c.if-self.true)
    (failed_on g.K.Sink.puts g.K.Sink.faults begun c.args.sink.now line hand c.args.piece.now
    (subst (λ (failed : Bool). IsOnItsWay g.K.Sink.puts g.K.Sink.faults begun line c.args.sink.now hand failed) c.if-self.true way))

pub returns-in-Ok : goal.returns-in-Ok
returns-in-Ok g c begun line way =
    let hand = c.args.self.now.hand.items in
    let now = subst (λ (failed : Bool). IsOnItsWay g.K.Sink.puts g.K.Sink.faults begun line c.args.sink.now hand failed) c.if-self.false way in
    subst (λ (failed : Bool). IsOnItsWay g.K.Sink.puts g.K.Sink.faults begun (line ++ c.args.piece.now) c.args.sink.now c.try_extend_from_slice.new.self.items failed) (sym c.if-self.false)
    (subst (λ (hand : List ℕ). IsOnItsWay g.K.Sink.puts g.K.Sink.faults begun (line ++ c.args.piece.now) c.args.sink.now hand false) (sym c.in-Ok.ensures.ok)
    (with_more g.K.Sink.puts g.K.Sink.faults g.met.K.Sink.in_a_row begun c.args.sink.now line hand c.args.piece.now now))

pub returns-in-Err : goal.returns-in-Err
returns-in-Err g c begun line way =
    let same : c.try_extend_from_slice.new.self.items ≡ c.args.self.now.hand.items = search rules in
    c.send.ensures begun line (subst (λ (hand : List ℕ). IsOnItsWay g.K.Sink.puts g.K.Sink.faults begun line c.args.sink.now hand c.args.self.now.failed) (sym same) way)
