-- Piece by piece.
use Rattle.std.proofs.Common.{rules, codes, ◌≡◌, ◌++◌, ◌∷◌, [], List, ℕ, ◌∙◌, subst, append_assoc}
use Rattle.std.specs.Fmt.{decimal}
use Rattle.eft_top.specs.Delivery.{Delivers}
use Rattle.eft_top.specs.Lines.{at_line}
use Rattle.eft_top.proofs.lines.end_at.Goals as goal

pub returns : goal.returns
returns g c begun head way =
    let number : c.as_bytes.result.now ≡ decimal c.args.line = search rules in
    let file = c.args.file.now in
    let text : (((((head ++ codes " at ") ++ file) ++ codes ":") ++ decimal c.args.line) ++ 10 ∷ []) ≡ head ++ at_line file c.args.line =
    append_assoc (((head ++ codes " at ") ++ file) ++ codes ":") (decimal c.args.line) (10 ∷ [])
    ∙ append_assoc ((head ++ codes " at ") ++ file) (codes ":") (decimal c.args.line ++ 10 ∷ [])
    ∙ append_assoc (head ++ codes " at ") file (codes ":" ++ (decimal c.args.line ++ 10 ∷ []))
    ∙ append_assoc head (codes " at ") (file ++ (codes ":" ++ (decimal c.args.line ++ 10 ∷ []))) in
    subst (λ (text : List ℕ). Delivers g.D.Sink.puts g.D.Sink.faults begun c.end.new.sink text c.end.result) text
    (subst (λ (number : List ℕ). Delivers g.D.Sink.puts g.D.Sink.faults begun c.end.new.sink (((((head ++ codes " at ") ++ file) ++ codes ":") ++ number) ++ 10 ∷ []) c.end.result) number
    (c.end.ensures begun _ (c.add-5.ensures begun _ (c.add-4.ensures begun _ (c.add-3.ensures begun _ (c.add-2.ensures begun _ (c.add.ensures begun head way)))))))
