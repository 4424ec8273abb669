-- A put that failed has put a front of more bytes too; and what it was of is something.
use Rattle.std.proofs.Common.{◌≡◌, List, [], ◌∷◌, ℕ, ◌++◌, ap, ◌∙◌, append_assoc}
use Rattle.std.specs.Prelude.{Result, Ok, Err, OnErr}
use Rattle.ports.specs.Puts.{PutsPrefix}

pub puts_cut_of : {K : Type 0} (puts : K → List ℕ → K → Type 0) (old new : K) (bytes rest : List ℕ) → PutsPrefix puts old bytes new → PutsPrefix puts old (bytes ++ rest) new
puts_cut_of puts old new bytes rest p = record { front = p.front; back = p.back ++ rest; split = ap (λ (l : List ℕ). l ++ rest) p.split ∙ append_assoc p.front p.back rest; put = p.put }

pub on_err : {T E P Q : Type 0} (r : Result T E) → (P → Q) → OnErr r P → OnErr r Q
on_err (Ok t) f h = tt
on_err (Err e) f h = f h

pub none_behind : {A : Type 0} (xs ys : List A) → xs ++ ys ≡ [] → ys ≡ []
none_behind [] ys none = none
none_behind (x ∷ xs) ys none = absurd (cc)
