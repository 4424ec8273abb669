-- Piece by piece.
use Rattle.std.proofs.Common.{codes, ◌≡◌, ◌++◌, ◌∷◌, [], List, ℕ, false, ◌∙◌, subst, drop, take, ◌-◌, arith, length-drop}
use Rattle.std.specs.Fmt.{digits}
use Rattle.std.proofs.lemmas.List.{take_all}
use Rattle.eft_top.specs.Delivery.{Delivers}
use Rattle.eft_top.proofs.lines.put_stop.Goals as goal

pub returns : goal.returns
returns g c =
    let number : take (64 - c.octal_digits-start.result) (drop c.octal_digits-start.result c.octal_digits-start.new.buffer) ≡ digits 8 false c.args.number =
    take_all _ _ (omega (arith, length-drop c.octal_digits-start.result c.octal_digits-start.new.buffer, c.octal_digits-start.auto.buffer)) ∙ c.octal_digits-start.ensures.digits in
    subst (λ (text : List ℕ). Delivers g.D.Sink.puts g.D.Sink.faults c.args.diag.now c.end.new.sink (codes "stop " ++ (text ++ 10 ∷ [])) c.end.result) number
    (c.end.ensures c.args.diag.now _ (c.add-3.ensures c.args.diag.now _ (c.add-2.ensures c.args.diag.now _ (c.add.ensures c.args.diag.now [] c.new-line.ensures.begun))))
