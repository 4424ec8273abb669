-- What was in hand is put with the piece.
use Rattle.std.proofs.Common.{sym, subst, ◌++◌, ℕ, List, Bool, []}
use Rattle.eft_top.specs.Delivery.{Delivers, IsOnItsWay}
use Rattle.eft_top.proofs.Delivery.{sent_on}
use Rattle.eft_top.proofs.puts.LineWriter.send.Goals as goal

pub returns : goal.returns
returns g c begun line way =
    let hand = c.args.self.now.hand.items in
    let now = subst (λ (failed : Bool). IsOnItsWay g.K.Sink.puts g.K.Sink.faults begun line c.args.sink.now hand failed) c.requires way in
    let sent = subst (λ (bytes : List ℕ). Delivers g.K.Sink.puts g.K.Sink.faults c.args.sink.now c.put_both.new.sink (bytes ++ c.args.piece.now) c.put_both.result) c.deref.ensures.0 c.put_both.ensures in
    subst (λ (hand : List ℕ). IsOnItsWay g.K.Sink.puts g.K.Sink.faults begun (line ++ c.args.piece.now) c.put_both.new.sink hand c.is_err-self.result) (sym c.clear.ensures)
    (subst (λ (failed : Bool). IsOnItsWay g.K.Sink.puts g.K.Sink.faults begun (line ++ c.args.piece.now) c.put_both.new.sink [] failed) (sym c.is_err-self.ensures.value)
    (sent_on g.K.Sink.puts g.K.Sink.faults g.met.K.Sink.in_a_row begun _ _ line hand c.args.piece.now c.put_both.result now sent))
