-- Storage units are no more than the rows of a list that has each name with places, where each has one place.
use Rattle.std.proofs.Common.{◌≡◌, ◌<◌, ◌≤◌, ◌⊎◌, ℕ, List, get_or, length, Option, Some, inl, inr, sym, ap, ◌∙◌, arith}
use Rattle.std.specs.List.{Contains}
use Rattle.std.proofs.lemmas.Bool.{cases_lt}
use Rattle.std.proofs.lemmas.List.{get_or_default}
use Rattle.std.proofs.lemmas.Option.{same_Some}
use Rattle.f66_tree.specs.Syntax.{Text, Routine}
use Rattle.f66_program.specs.Association.{IsReal, IsNumbering, HasUnits}
use Rattle.f66_program.proofs.CountLemmas.{pigeons}

module _ (rs : List Routine) (rows : List (ℕ × Text)) (listed : (u : ℕ) (x : Text) (o : ℕ) → IsReal rs u x o → (o ≡ 0) × Contains rows (u, x)) where
  module _ (number : ℕ → Text → ℕ → Option ℕ) (total : ℕ) (is : IsNumbering rs number total) where
    -- the row of a storage unit
    record IsRow (n i : ℕ) : Type 0 where
      unit : ℕ
      name : Text
      inside : i < length rows
      stands : get_or rows i (unit, name) ≡ (unit, name)
      numbered : number unit name 0 ≡ Some n

    row : (n : ℕ) → (n < total) ⊎ (total ≤ n) → ℕ
    row n (inl l) = (let w = is.onto n l in (listed w.0 w.1 w.2 (is.real w.0 w.1 w.2 n w.3)).1.0)
    row n (inr l) = 0

    rowed : (n : ℕ) (s : (n < total) ⊎ (total ≤ n)) → n < total → IsRow n (row n s)
    unfolding row
    rowed n (inl l) lt =
        let w = is.onto n l in
        let h = listed w.0 w.1 w.2 (is.real w.0 w.1 w.2 n w.3) in
        record { unit = w.0; name = w.1; inside = h.1.1; stands = h.1.2; numbered = ap (number w.0 w.1) (sym h.0) ∙ w.3 }
    rowed n (inr l) lt = absurd (omega (arith, l, lt))

    row_of : ℕ → ℕ
    row_of n = row n (cases_lt n total)

    has_row : (n : ℕ) → n < total → IsRow n (row_of n)
    unfolding row_of
    has_row n lt = rowed n (cases_lt n total) lt

    rows_apart : (m n : ℕ) → m < total → n < total → row_of m ≡ row_of n → m ≡ n
    rows_apart m n lt less e =
        let a = has_row m lt in
        let b = has_row n less in
        let same : (a.unit, a.name) ≡ (b.unit, b.name) = sym a.stands ∙ get_or_default rows (row_of m) (a.unit, a.name) (b.unit, b.name) a.inside ∙ ap (λ i. get_or rows i (b.unit, b.name)) e ∙ b.stands in
        same_Some m n (sym a.numbered ∙ ap (λ (r : ℕ × Text). number r.0 r.1 0) same ∙ b.numbered)

    no_more : total ≤ length rows
    no_more = pigeons (length rows) total row_of (λ n lt. (has_row n lt).inside) rows_apart

  pub few_units : (total : ℕ) → HasUnits rs total → total ≤ length rows
  few_units total h = no_more h.0 total h.1
