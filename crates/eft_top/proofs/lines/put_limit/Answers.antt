-- Piece by piece.
use Rattle.std.proofs.Common.{rules, codes, ◌≡◌, ◌++◌, ◌∷◌, [], List, ℕ, subst}
use Rattle.std.specs.Fmt.{decimal}
use Rattle.eft_top.specs.Delivery.{Delivers}
use Rattle.eft_top.proofs.lines.put_limit.Goals as goal

pub returns : goal.returns
returns g c =
    let digits : c.as_bytes.result.now ≡ decimal c.args.limit = search rules in
    subst (λ (text : List ℕ). Delivers g.D.Sink.puts g.D.Sink.faults c.args.diag.now c.end.new.sink (codes "step limit " ++ (text ++ 10 ∷ [])) c.end.result) digits
    (c.end.ensures c.args.diag.now _ (c.add-3.ensures c.args.diag.now _ (c.add-2.ensures c.args.diag.now _ (c.add.ensures c.args.diag.now [] c.new-line.ensures.begun))))
