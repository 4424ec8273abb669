-- What was there is still there.
use Rattle.std.proofs.Common.{ℕ, List, ◌++◌, Result, Ok, Err, OnErr, ap, ◌∙◌, append_assoc}
use Rattle.deck.specs.Fronts.{Begins}

pub begins_on : (a b c : List ℕ) → Begins a b → Begins b c → Begins a c
begins_on a b c first second = record {
  rest = first.rest ++ second.rest;
  is = second.is ∙ ap (λ (l : List ℕ). l ++ second.rest) first.is ∙ append_assoc a first.rest second.rest;
}

pub on_err : {A E : Type 0} (P : Type 0) (r : Result A E) → P → OnErr r P
on_err P (Ok a) holds = tt
on_err P (Err e) holds = holds
