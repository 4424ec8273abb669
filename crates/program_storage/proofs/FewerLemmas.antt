-- The first units of a program have no more storage units than all, where none is bad: places that are two storage units of the first
-- ones are two of all.
use Rattle.std.proofs.Common.{◌≡◌, ◌<◌, ◌≤◌, ◌⊎◌, ℕ, pos, ◌-ℤ◌, List, ◌++◌, length, take, drop, Option, Some, sym, ◌∙◌, ap, arith, inl, inr, subst}
use Rattle.std.proofs.lemmas.Bool.{cases_lt}
use Rattle.std.proofs.lemmas.List.{take-append-drop, take-take}
use Rattle.std.proofs.lemmas.List.Elements.{All-take}
use Rattle.std.proofs.lemmas.Option.{slice_get_within}
use Rattle.std.specs.List.{All}
use Rattle.f66_tree.specs.Syntax.{Text, Routine}
use Rattle.f66_program.specs.Association.{IsReal, IsNumbering, IsBadUnit, HasUnits, IsSame, Own, ties_of}
use Rattle.f66_program.proofs.CountLemmas.{pigeons}
use Rattle.program_storage.proofs.StepLemmas.{got_before}
use Rattle.program_storage.proofs.LocalLemmas.{local}

-- a place that has the number k among the first units and j among all
record HasBoth (rs : List Routine) (one other : ℕ → Text → ℕ → Option ℕ) (n k j : ℕ) : Type 0 where
  unit : ℕ
  name : Text
  place : ℕ
  real : IsReal rs unit name place
  first : one unit name place ≡ Some k
  second : other unit name place ≡ Some j
  inside : j < n

module _ (rs more : List Routine) (well : All (λ r. ¬ IsBadUnit r) (rs ++ more)) (one other : ℕ → Text → ℕ → Option ℕ) (m n : ℕ) (v : IsNumbering rs one m) (w : IsNumbering (rs ++ more) other n) where
  unit_inside : (u : ℕ) (x : Text) (o : ℕ) → IsReal rs u x o → u < length rs
  unit_inside u x o k = slice_get_within rs u k.unit k.here

  real_more : (u : ℕ) (x : Text) (o : ℕ) → IsReal rs u x o → IsReal (rs ++ more) u x o
  real_more u x o k = record { unit = k.unit; here = got_before rs more u (unit_inside u x o k) ∙ k.here; named = k.named; inside = k.inside }

  pick : (k : ℕ) → (k < m) ⊎ (m ≤ k) → ℕ
  pick k (inl l) = (let p = v.onto k l in (w.below p.0 p.1 p.2 (real_more p.0 p.1 p.2 (v.real p.0 p.1 p.2 k p.3))).0)
  pick k (inr l) = 0

  picked : (k : ℕ) (s : (k < m) ⊎ (m ≤ k)) → k < m → HasBoth rs one other n k (pick k s)
  unfolding pick
  picked k (inl l) k_in =
      let p = v.onto k l in
      let r = v.real p.0 p.1 p.2 k p.3 in
      let b = w.below p.0 p.1 p.2 (real_more p.0 p.1 p.2 r) in
      record { unit = p.0; name = p.1; place = p.2; real = r; first = p.3; second = b.1; inside = b.2 }
  picked k (inr l) k_in = absurd (omega (arith, l))

  image : ℕ → ℕ
  image k = pick k (cases_lt k m)

  has : (k : ℕ) → k < m → HasBoth rs one other n k (image k)
  unfolding image
  has k k_in = picked k (cases_lt k m) k_in

  image_apart : (i j : ℕ) → i < m → j < m → image i ≡ image j → i ≡ j
  image_apart i j i_in j_in e =
      let p = has i i_in in
      let q = has j j_in in
      let all = (w.same p.unit p.name p.place q.unit q.name q.place (real_more p.unit p.name p.place p.real) (real_more q.unit q.name q.place q.real)).0 (p.second ∙ ap Some e ∙ sym q.second) in
      let same : IsSame (ties_of rs) (Own p.unit p.name) (Own q.unit q.name) (pos q.place -ℤ pos p.place) =
      local rs more well p.unit q.unit p.name q.name (pos q.place -ℤ pos p.place) (unit_inside p.unit p.name p.place p.real) (unit_inside q.unit q.name q.place q.real) all in
      let numbers = (v.same p.unit p.name p.place q.unit q.name q.place p.real q.real).1 same in
      let somes : Some i ≡ Some j = sym p.first ∙ numbers ∙ q.first in
      cc

  no_more : m ≤ n
  no_more = pigeons n m image (λ i i_in. (has i i_in).inside) image_apart

pub fewer_units : (rs : List Routine) → All (λ r. ¬ IsBadUnit r) rs → (a b m n : ℕ) → a ≤ b → HasUnits (take a rs) m → HasUnits (take b rs) n → m ≤ n
fewer_units rs well a b m n le h k =
    let parts : take a rs ++ drop a (take b rs) ≡ take b rs = ap (λ xs. xs ++ drop a (take b rs)) (sym (take-take a b rs le)) ∙ take-append-drop a (take b rs) in
    let good : All (λ r. ¬ IsBadUnit r) (take a rs ++ drop a (take b rs)) = subst (All (λ r. ¬ IsBadUnit r)) (sym parts) (All-take (λ r. ¬ IsBadUnit r) b rs well) in
    no_more (take a rs) (drop a (take b rs)) good h.0 k.0 m n h.1 (subst (λ xs. IsNumbering xs k.0 n) (sym parts) k.1)
