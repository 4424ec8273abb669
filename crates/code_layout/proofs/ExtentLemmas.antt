-- How many places the dimensions of a list give.
use Rattle.std.proofs.Common.{◌≡◌, ◌<◌, ◌+◌, ◌*◌, ℕ, ℤ, List, ◌∷◌, length, map, drop, get_or, add-one, drop-cons, ap, sym, ◌∙◌}
use Rattle.std.specs.Prelude.{unsigned_abs}
use Rattle.std.proofs.Math.Nat.{mul_assoc}
use Rattle.f66_tree.specs.declared.declaration.Par.{Par}
use Rattle.f66_tree.specs.declared.declaration.Par.TheVariants.{Number}
use Rattle.f66_tree.specs.Units.{places_of}
use Rattle.f66_tree.specs.Views.{par_of}

-- the rest of a list from an element on
pub drop_at : {A : Type 0} (xs : List A) (i : ℕ) (x : A) → i < length xs → x ≡ get_or xs i x → drop i xs ≡ x ∷ drop (i + 1) xs
drop_at xs i x within is =
    let step : drop i xs ≡ get_or xs i x ∷ drop (i + 1) xs = rw add-one (drop-cons xs i x within) in
    step ∙ ap (λ z. z ∷ drop (i + 1) xs) (sym is)

-- one dimension more, which is a constant
pub placed_more : (all : List Par) (i before after : ℕ) (x : Par) (z : ℤ) → i < length all → x ≡ get_or all i x → x ≡ Number z → after ≡ before * unsigned_abs z →
    after * places_of (map par_of (drop (i + 1) all)) ≡ before * places_of (map par_of (drop i all))
placed_more all i before after x z lt here is times =
    let rest = places_of (map par_of (drop (i + 1) all)) in
    ap (λ n. n * rest) times ∙ mul_assoc before (unsigned_abs z) rest
    ∙ sym (ap (λ ys. before * places_of (map par_of ys)) (drop_at all i x lt here ∙ ap (λ y. y ∷ drop (i + 1) all) is))
