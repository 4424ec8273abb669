-- Piece by piece.
use Rattle.std.proofs.Common.{rules, codes, ◌≡◌, ◌++◌, [], List, ℕ, Bool, true, false, sym, ap, ◌∙◌, subst, append_assoc, arith, ◌==◌}
use Rattle.std.specs.Prelude.{if◌then◌else◌}
use Rattle.std.proofs.lemmas.Bool.Decides.{nat_tests}
use Rattle.std.specs.Fmt.{decimal}
use Rattle.std.proofs.lemmas.List.{append-nil}
use Rattle.eft_top.specs.Delivery.{IsWriting}
use Rattle.eft_top.specs.Lines.{limit_part}
use Rattle.eft_top.proofs.lines.add_limit.Goals as goal

pub returns-then-limit-ne0 : goal.returns-then-limit-ne0
returns-then-limit-ne0 g c begun head way =
    let some : (c.args.limit == 0) ≡ false = grind (arith, nat_tests, c.if-limit-ne0.true) in
    let number : c.as_bytes.result.now ≡ decimal c.args.limit = search rules in
    let text : (head ++ codes " ") ++ c.as_bytes.result.now ≡ head ++ limit_part c.args.limit =
    append_assoc head (codes " ") c.as_bytes.result.now ∙ ap (λ (l : List ℕ). head ++ (codes " " ++ l)) number ∙ ap (λ (b : Bool). head ++ (if b then [] else (codes " " ++ decimal c.args.limit))) (sym some) in
    subst (λ (text : List ℕ). IsWriting g.D.Sink.puts g.D.Sink.faults begun text c.add-then-limit-ne0.new.sink c.add-then-limit-ne0.new.self) text
    (c.add-then-limit-ne0.ensures begun _ (c.add.ensures begun head way))

pub returns-else-limit-ne0 : goal.returns-else-limit-ne0
returns-else-limit-ne0 g c begun head way =
    let none : (c.args.limit == 0) ≡ true = grind (arith, nat_tests, c.if-limit-ne0.false) in
    subst (λ (text : List ℕ). IsWriting g.D.Sink.puts g.D.Sink.faults begun text c.args.diag.now c.args.line.now) (sym (append-nil head) ∙ ap (λ (b : Bool). head ++ (if b then [] else (codes " " ++ decimal c.args.limit))) (sym none)) way
