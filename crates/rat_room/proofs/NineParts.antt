-- No production has more than nine parts: what its first nine weigh, its parts weigh together.
use Rattle.std.proofs.Common.{◌≡◌, ◌≤◌, ℕ, zero, suc, ◌+◌, arith, List, [], ◌∷◌, refl}
use Rattle.rat_parse_values.specs.Values.{Val, last_of, others, at}
use Rattle.rat_room.proofs.Weights.{total}
use Rattle.rat_room.proofs.TreeWeights.{Each}

abbrev pub WeighNine : (Val → ℕ) → List Val → Type 0
WeighNine weight vs =
    weight (at 0 vs) + (weight (at 1 vs) + (weight (at 2 vs) + (weight (at 3 vs) + (weight (at 4 vs) + (weight (at 5 vs) + (weight (at 6 vs) + (weight (at 7 vs) + weight (at 8 vs)))))))) ≤ total weight vs

module _ (weight : Val → ℕ) (none : weight (last_of []) ≡ 0) where
  first_weighs : (vs : List Val) → weight (last_of vs) + total weight (others vs) ≡ total weight vs
  first_weighs [] = omega (arith, none)
  first_weighs (v ∷ vs) = refl

  pub nine : (vs : List Val) → WeighNine weight vs
  nine vs =
      let a : List Val = others vs in
      let b : List Val = others a in
      let c : List Val = others b in
      let d : List Val = others c in
      let e : List Val = others d in
      let f : List Val = others e in
      let g : List Val = others f in
      let h : List Val = others g in
      omega (arith, first_weighs vs, first_weighs a, first_weighs b, first_weighs c, first_weighs d, first_weighs e, first_weighs f, first_weighs g, first_weighs h)

-- what holds of each part holds of the one at a place
pub part_at : (Q : Val → Type 0) → Q (last_of []) → (n : ℕ) (vs : List Val) → Each Q vs → Q (at n vs)
part_at Q none zero [] e = none
part_at Q none zero (v ∷ vs) e = e.0
part_at Q none (suc n) [] e = part_at Q none n [] tt
part_at Q none (suc n) (v ∷ vs) e = part_at Q none n vs e.1
