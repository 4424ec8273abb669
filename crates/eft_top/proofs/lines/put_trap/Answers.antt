-- Piece by piece.
use Rattle.std.proofs.Common.{rules, codes, ◌≡◌, ◌++◌, [], List, ℕ, ◌∙◌, subst, append_assoc}
use Rattle.std.specs.Fmt.{decimal}
use Rattle.ground.specs.TrapNames.{trap_number, trap_word}
use Rattle.eft_top.specs.Delivery.{Delivers}
use Rattle.eft_top.specs.Lines.{at_line, trap_head}
use Rattle.eft_top.proofs.lines.put_trap.Goals as goal

pub returns : goal.returns
returns g c =
    let number : c.as_bytes.result.now ≡ decimal (trap_number c.args.trap) = search rules in
    let word : c.as_bytes-2.result.now ≡ trap_word c.args.trap = search rules in
    let head : ((codes "trap " ++ decimal (trap_number c.args.trap)) ++ codes " ") ++ trap_word c.args.trap ≡ trap_head c.args.trap =
    append_assoc (codes "trap " ++ decimal (trap_number c.args.trap)) (codes " ") (trap_word c.args.trap) ∙ append_assoc (codes "trap ") (decimal (trap_number c.args.trap)) (codes " " ++ trap_word c.args.trap) in
    subst (λ (head : List ℕ). Delivers g.D.Sink.puts g.D.Sink.faults c.args.diag.now c.end_at.new.diag (head ++ at_line c.args.file.now c.args.line) c.end_at.result) head
    (subst (λ (word : List ℕ). Delivers g.D.Sink.puts g.D.Sink.faults c.args.diag.now c.end_at.new.diag ((((codes "trap " ++ decimal (trap_number c.args.trap)) ++ codes " ") ++ word) ++ at_line c.args.file.now c.args.line) c.end_at.result) word
    (subst (λ (number : List ℕ). Delivers g.D.Sink.puts g.D.Sink.faults c.args.diag.now c.end_at.new.diag ((((codes "trap " ++ number) ++ codes " ") ++ c.as_bytes-2.result.now) ++ at_line c.args.file.now c.args.line) c.end_at.result) number
    (c.end_at.ensures c.args.diag.now _ (c.add-4.ensures c.args.diag.now _ (c.add-3.ensures c.args.diag.now _ (c.add-2.ensures c.args.diag.now _ (c.add.ensures c.args.diag.now [] c.new-text.ensures.begun)))))))
