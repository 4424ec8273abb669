-- The storage units of a program with spare variables: no more than those of the other, and one for each unit.
use Rattle.std.proofs.Common.{◌≡◌, ◌<◌, ◌≤◌, ◌+◌, ◌⊎◌, inl, inr, ℕ, pos, ◌-ℤ◌, List, [], ◌++◌, length, take, drop, Option, Some, refl, sym, ap, ◌∙◌, subst, arith}
use Rattle.std.specs.List.{All, slice_get}
use Rattle.std.proofs.lemmas.Bool.{cases_lt}
use Rattle.std.proofs.lemmas.List.{take-append-drop}
use Rattle.std.proofs.lemmas.Option.{slice_get_within}
use Rattle.f66_tree.specs.Syntax.{Text, Routine}
use Rattle.f66_tree.specs.Units.{notes_of, places_of, sizes_of}
use Rattle.f66_program.specs.Mentions.{context_of}
use Rattle.f66_program.specs.Association.{Own, IsSame, ties_of, IsReal, IsNumbering, IsBadUnit, size_in}
use Rattle.f66_program.proofs.CountLemmas.{pigeons}
use Rattle.program_storage.proofs.LocalLemmas.{local}
use Rattle.program_storage.proofs.StepLemmas.{got_before}
use Rattle.spared_units.specs.Spared.{mentions_of_lines, Pair, said_units, made_units}
use Rattle.spared_units.proofs.Among.{contained, some_of}
use Rattle.spared_units.proofs.Places.{IsSpareAt, made_at, same_size, real_back}
use Rattle.spared_units.proofs.Blocks.{no_sizes, lacks}
use Rattle.spared_units.proofs.Programs.{tied}

-- ---- the place of a spare variable ----

module _ (ps : List Pair) where
  -- it has one
  pub spare_place : (u : ℕ) (x : Text) (o : ℕ) → IsReal (made_units ps) u x o → IsSpareAt ps u x → o ≡ 0
  spare_place u x o k sp =
      let p = sp.pair in
      let l = lacks p.said p.spare x sp.is p.spared.lacks in
      let none : sizes_of x (notes_of p.said.lines) ≡ [] = no_sizes x (context_of p.said) p.said.lines l.declared (λ m i. l.mentioned (context_of p.said) m (contained (mentions_of_lines (context_of p.said) p.said.lines) m i)) in
      let same : k.unit ≡ p.made = some_of k.unit p.made (sym k.here ∙ made_at ps u p sp.here) in
      let size : size_in (context_of k.unit) x ≡ 1 = ap (λ r. size_in (context_of r) x) same ∙ same_size p.spare p.said p.made p.spared x ∙ ap places_of none in
      let lt = k.inside in
      omega (arith, lt, size)

  pub one_spare : (u v : ℕ) (x y : Text) → u ≡ v → IsSpareAt ps u x → IsSpareAt ps v y → x ≡ y
  one_spare u v x y e a b =
      let same : a.pair ≡ b.pair = some_of a.pair b.pair (sym a.here ∙ ap (slice_get ps) e ∙ b.here) in
      some_of x y (sym a.is ∙ ap (λ p. p.spare) same ∙ b.is)

  module _ (rs more : List Routine) (parts : rs ++ more ≡ made_units ps) (well : All (λ r. ¬ IsBadUnit r) (rs ++ more)) (one other : ℕ → Text → ℕ → Option ℕ) (m n : ℕ) (v : IsNumbering rs one m) (w : IsNumbering (said_units ps) other n) where
    unit_inside : (u : ℕ) (x : Text) (o : ℕ) → IsReal rs u x o → u < length rs
    unit_inside u x o k = slice_get_within rs u k.unit k.here

    real_made : (u : ℕ) (x : Text) (o : ℕ) → IsReal rs u x o → IsReal (made_units ps) u x o
    real_made u x o k = subst (λ qs. IsReal qs u x o) parts (record { unit = k.unit; here = got_before rs more u (unit_inside u x o k) ∙ k.here; named = k.named; inside = k.inside })

    -- what the number j stands for: a spare variable, behind all numbers of the other program, or a place there
    abbrev Stands : ℕ → Text → ℕ → ℕ → Type 0
    Stands u x o j = (IsSpareAt ps u x × (j ≡ n + u)) ⊎ (IsReal (said_units ps) u x o × (other u x o ≡ Some j) × (j < n))

    record Image (k j : ℕ) : Type 0 where
      unit : ℕ
      name : Text
      place : ℕ
      real : IsReal rs unit name place
      first : one unit name place ≡ Some k
      stands : Stands unit name place j

    stands_for : (u : ℕ) (x : Text) (o : ℕ) → IsReal rs u x o → (j : ℕ) × Stands u x o j
    stands_for u x o k = elim (real_back ps u x o (real_made u x o k)) [
      | inl sp ↦ (n + u, inl (sp, refl))
      | inr real ↦ (let b = w.below u x o real in (b.0, inr (real, b.1, b.2)))
    ]

    pick : (k : ℕ) → (k < m) ⊎ (m ≤ k) → ℕ
    pick k (inl l) = (let p = v.onto k l in (stands_for p.0 p.1 p.2 (v.real p.0 p.1 p.2 k p.3)).0)
    pick k (inr l) = 0

    picked : (k : ℕ) (s : (k < m) ⊎ (m ≤ k)) → k < m → Image k (pick k s)
    unfolding pick
    picked k (inl l) k_in =
        let p = v.onto k l in
        let r = v.real p.0 p.1 p.2 k p.3 in
        record { unit = p.0; name = p.1; place = p.2; real = r; first = p.3; stands = (stands_for p.0 p.1 p.2 r).1 }
    picked k (inr l) k_in = absurd (omega (arith, l))

    image : ℕ → ℕ
    image k = pick k (cases_lt k m)

    has : (k : ℕ) → k < m → Image k (image k)
    unfolding image
    has k k_in = picked k (cases_lt k m) k_in

    stands_below : (u : ℕ) (x : Text) (o j : ℕ) → Stands u x o j → j < n + length ps
    stands_below u x o j (inl h) = (let l = slice_get_within ps u h.0.pair h.0.here in let e = h.1 in omega (arith, l, e))
    stands_below u x o j (inr h) = (let l = h.2 in omega (arith, l))

    -- two places with one image have one number
    same_number : (u : ℕ) (x : Text) (o : ℕ) (u' : ℕ) (x' : Text) (o' : ℕ) (j : ℕ) → IsReal rs u x o → IsReal rs u' x' o' → Stands u x o j → Stands u' x' o' j → one u x o ≡ one u' x' o'
    same_number u x o u' x' o' j r r' (inl h) (inl h') =
        let eu : u ≡ u' = (let a = h.1 in let b = h'.1 in omega (arith, a, b)) in
        let ex : x ≡ x' = one_spare u u' x x' eu h.0 h'.0 in
        let eo : o ≡ o' = spare_place u x o (real_made u x o r) h.0 ∙ sym (spare_place u' x' o' (real_made u' x' o' r') h'.0) in
        ap (λ a. one a x o) eu ∙ ap (λ a. one u' a o) ex ∙ ap (one u' x') eo
    same_number u x o u' x' o' j r r' (inl h) (inr h') = absurd (let a = h.1 in let b = h'.2 in omega (arith, a, b))
    same_number u x o u' x' o' j r r' (inr h) (inl h') = absurd (let a = h.2 in let b = h'.1 in omega (arith, a, b))
    same_number u x o u' x' o' j r r' (inr h) (inr h') =
        let said = (w.same u x o u' x' o' h.0 h'.0).0 (h.1 ∙ sym h'.1) in
        let all : IsSame (ties_of (rs ++ more)) (Own u x) (Own u' x') (pos o' -ℤ pos o) = subst (λ ts. IsSame ts (Own u x) (Own u' x') (pos o' -ℤ pos o)) (sym (ap ties_of parts ∙ tied ps)) said in
        (v.same u x o u' x' o' r r').1 (local rs more well u u' x x' (pos o' -ℤ pos o) (unit_inside u x o r) (unit_inside u' x' o' r') all)

    image_apart : (i j : ℕ) → i < m → j < m → image i ≡ image j → i ≡ j
    image_apart i j i_in j_in e =
        let p = has i i_in in
        let q = has j j_in in
        let same = same_number p.unit p.name p.place q.unit q.name q.place (image j) p.real q.real (subst (λ k. Stands p.unit p.name p.place k) e p.stands) q.stands in
        some_of i j (sym p.first ∙ same ∙ q.first)

    pub no_more : m ≤ n + length ps
    no_more = pigeons (n + length ps) m image (λ i i_in. (let p = has i i_in in stands_below p.unit p.name p.place (image i) p.stands)) image_apart

-- so the first units of the program have no more either
pub few_units : (ps : List Pair) → All (λ r. ¬ IsBadUnit r) (made_units ps) → (k m n : ℕ) (one other : ℕ → Text → ℕ → Option ℕ) → IsNumbering (take k (made_units ps)) one m → IsNumbering (said_units ps) other n → m ≤ n + length ps
few_units ps well k m n one other v w =
    let parts : take k (made_units ps) ++ drop k (made_units ps) ≡ made_units ps = take-append-drop k (made_units ps) in
    no_more ps (take k (made_units ps)) (drop k (made_units ps)) parts (subst (All (λ r. ¬ IsBadUnit r)) (sym parts) well) one other m n v w
