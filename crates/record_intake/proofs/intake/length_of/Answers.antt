-- A record ends before a byte 13.
use Rattle.std.proofs.Common.{◌≡◌, sym, ◌∙◌, ◌++◌, None, Some, List, ℕ, [], ◌∷◌, length, take, ap, refl, arith}
use Rattle.std.proofs.lemmas.List.{take_all, take_at}
use Rattle.std.proofs.lemmas.Bool.Decides.{Decides-eqb}
use Rattle.std.proofs.lemmas.Slice.Eq.{strip_suffix_is}
use Rattle.ports.specs.Records.{without_return}
use Rattle.ports.proofs.RecordLemmas.{return_at_end, no_return_at_end}
use Rattle.record_intake.proofs.intake.length_of.Goals as goal

pub returns-in-Some-clause-record : goal.returns-in-Some-clause-record
returns-in-Some-clause-record c =
    let line = c.args.line.now in
    let front = c.in-Some.front.now in
    let is : line ≡ front ++ 13 ∷ [] = strip_suffix_is Decides-eqb line (13 ∷ []) (Some c.in-Some.front) c.in-Some.ensures.cases in
    ap (λ (l : List ℕ). take (length front) l) is ∙ take_at front (13 ∷ []) (length front) refl ∙ sym (ap without_return is ∙ return_at_end front)

pub returns-in-None-clause-record : goal.returns-in-None-clause-record
returns-in-None-clause-record c =
    let line = c.args.line.now in
    let other_end : (front : List ℕ) → line ≡ front ++ 13 ∷ [] → ⊥ = strip_suffix_is Decides-eqb line (13 ∷ []) None c.in-None.ensures.cases in
    take_all (length line) line (omega arith) ∙ sym (no_return_at_end line other_end)
