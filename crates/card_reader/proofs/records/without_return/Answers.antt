-- A record ends before a byte 13.
use Rattle.std.proofs.Common.{◌≡◌, sym, ◌∙◌, ◌++◌, None, Some, List, ℕ, [], ◌∷◌, ap}
use Rattle.std.proofs.lemmas.Bool.Decides.{Decides-eqb}
use Rattle.std.proofs.lemmas.Slice.Eq.{strip_suffix_is}
use Rattle.ports.specs.Records.{without_return}
use Rattle.ports.proofs.RecordLemmas.{return_at_end, no_return_at_end}
use Rattle.card_reader.proofs.records.without_return.Goals as goal

pub returns-in-Some : goal.returns-in-Some
returns-in-Some c =
    let line = c.args.line.now in
    let front = c.in-Some.front.now in
    let is : line ≡ front ++ 13 ∷ [] = strip_suffix_is Decides-eqb line (13 ∷ []) (Some c.in-Some.front) c.in-Some.ensures.cases in
    sym (ap without_return is ∙ return_at_end front)

pub returns-in-None : goal.returns-in-None
returns-in-None c =
    let line = c.args.line.now in
    let other_end : (front : List ℕ) → line ≡ front ++ 13 ∷ [] → ⊥ = strip_suffix_is Decides-eqb line (13 ∷ []) None c.in-None.ensures.cases in
    sym (no_return_at_end line other_end)
