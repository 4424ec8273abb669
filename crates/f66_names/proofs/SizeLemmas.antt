-- Products up to one more than the limit.
use Rattle.std.proofs.Common.{◌≡◌, ◌*◌, ◌<◌, ◌+◌, ℕ, drop, get_or, drop-cons, add-one, List, ◌∷◌, length, min, sym, ap, ◌∙◌, arith}
use Rattle.std.specs.Prelude.{unsigned_abs}
use Rattle.f66_tree.specs.Syntax.{Par, Constant, Named}
use Rattle.f66_tree.specs.Units.{places_of}
use Rattle.f66_names.specs.StoreRules.{capped_size}

cap_step : (n y : ℕ) → min (min n 32768 * y) 32768 ≡ min (n * y) 32768
cap_step n y = grind arith

turned : (p u r : ℕ) → p * u * r ≡ u * (p * r)
turned p u r = omega arith

-- one dimension more
pub sized_step : (p : ℕ) (n : Par) (rest : List Par) → min (min (p * capped_size n) 32768 * places_of rest) 32768 ≡ min (p * places_of (n ∷ rest)) 32768
sized_step p (Constant z) rest =
    let u = unsigned_abs z in
    let r = places_of rest in
    cap_step (p * min u 32768) r ∙ ap (λ m. min m 32768) (turned p (min u 32768) r) ∙ cap_step u (p * r)
    ∙ ap (λ m. min m 32768) (omega arith)
sized_step p (Named x) rest = grind arith

-- an element that a loop reads, and those behind it
pub read_on : {X : Type 0} (xs : List X) (i : ℕ) (x : X) → i < length xs → x ≡ get_or xs i x → x ∷ drop (i + 1) xs ≡ drop i xs
read_on xs i x h is = ap (λ y. y ∷ drop (i + 1) xs) is ∙ ap (λ n. get_or xs i x ∷ drop n xs) (add-one i) ∙ sym (drop-cons xs i x h)
