-- Piece by piece.
use Rattle.std.proofs.Common.{rules, codes, ◌≡◌, ◌++◌, ◌∷◌, [], List, ℕ, subst, append_assoc, ◌∙◌}
use Rattle.std.specs.Fmt.{decimal}
use Rattle.eft_top.specs.Delivery.{Delivers}
use Rattle.eft_top.specs.Lines.{counts_line}
use Rattle.eft_top.proofs.lines.put_counts.Goals as goal

pub returns : goal.returns
returns g c =
    let first : c.as_bytes.result.now ≡ decimal c.args.begun = search rules in
    let second : c.as_bytes-2.result.now ≡ decimal c.args.executed = search rules in
    let front = codes "statements " ++ decimal c.args.begun in
    let text : ((front ++ codes " instructions ") ++ decimal c.args.executed) ++ 10 ∷ [] ≡ counts_line c.args.begun c.args.executed =
    append_assoc (front ++ codes " instructions ") (decimal c.args.executed) (10 ∷ []) ∙ append_assoc front (codes " instructions ") (decimal c.args.executed ++ 10 ∷ [])
    ∙ append_assoc (codes "statements ") (decimal c.args.begun) (codes " instructions " ++ (decimal c.args.executed ++ 10 ∷ [])) in
    subst (λ (text : List ℕ). Delivers g.D.Sink.puts g.D.Sink.faults c.args.diag.now c.end.new.sink text c.end.result) text
    (subst (λ (second : List ℕ). Delivers g.D.Sink.puts g.D.Sink.faults c.args.diag.now c.end.new.sink (((front ++ codes " instructions ") ++ second) ++ 10 ∷ []) c.end.result) second
    (subst (λ (first : List ℕ). Delivers g.D.Sink.puts g.D.Sink.faults c.args.diag.now c.end.new.sink ((((codes "statements " ++ first) ++ codes " instructions ") ++ c.as_bytes-2.result.now) ++ 10 ∷ []) c.end.result) first
    (c.end.ensures c.args.diag.now _ (c.add-5.ensures c.args.diag.now _ (c.add-4.ensures c.args.diag.now _ (c.add-3.ensures c.args.diag.now _ (c.add-2.ensures c.args.diag.now _ (c.add.ensures c.args.diag.now [] c.new-line.ensures.begun))))))))
