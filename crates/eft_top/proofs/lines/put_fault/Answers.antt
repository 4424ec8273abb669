-- Piece by piece.
use Rattle.std.proofs.Common.{rules, codes, ◌≡◌, ◌++◌, [], List, ℕ, ◌∙◌, subst, append_assoc}
use Rattle.std.specs.Fmt.{decimal}
use Rattle.ground.specs.FaultNames.{fault_number, fault_word}
use Rattle.eft_top.specs.Delivery.{Delivers}
use Rattle.eft_top.specs.Lines.{at_line, fault_head, limit_part}
use Rattle.eft_top.proofs.lines.put_fault.Goals as goal

pub returns : goal.returns
returns g c =
    let kind = c.args.fault.kind in
    let line = at_line c.args.file.now c.args.fault.place.line in
    let limit = limit_part c.args.fault.number in
    let number : c.as_bytes.result.now ≡ decimal (fault_number kind) = search rules in
    let word : c.as_bytes-2.result.now ≡ fault_word kind = search rules in
    let front = codes "fault " ++ decimal (fault_number kind) in
    let head : ((front ++ codes " ") ++ fault_word kind) ++ limit ≡ fault_head c.args.fault =
    append_assoc (front ++ codes " ") (fault_word kind) limit ∙ append_assoc front (codes " ") (fault_word kind ++ limit) ∙ append_assoc (codes "fault ") (decimal (fault_number kind)) (codes " " ++ (fault_word kind ++ limit)) in
    subst (λ (head : List ℕ). Delivers g.D.Sink.puts g.D.Sink.faults c.args.diag.now c.end_at.new.diag (head ++ line) c.end_at.result) head
    (subst (λ (word : List ℕ). Delivers g.D.Sink.puts g.D.Sink.faults c.args.diag.now c.end_at.new.diag ((((front ++ codes " ") ++ word) ++ limit) ++ line) c.end_at.result) word
    (subst (λ (number : List ℕ). Delivers g.D.Sink.puts g.D.Sink.faults c.args.diag.now c.end_at.new.diag (((((codes "fault " ++ number) ++ codes " ") ++ c.as_bytes-2.result.now) ++ limit) ++ line) c.end_at.result) number
    (c.end_at.ensures c.args.diag.now _ (c.add_limit.ensures c.args.diag.now _ (c.add-4.ensures c.args.diag.now _ (c.add-3.ensures c.args.diag.now _ (c.add-2.ensures c.args.diag.now _ (c.add.ensures c.args.diag.now [] c.new-line.ensures.begun))))))))
