-- Different lists have different numbers, where a list is numbered by powers of two.
use Rattle.std.proofs.Common.{◌≡◌, ℕ, zero, suc, ◌+◌, ◌*◌, ◌^◌, ◌<◌, List, [], ◌∷◌, refl, ap, ◌∙◌, arith}
use Rattle.std.proofs.Math.Nat.{pow-suc}
use Rattle.f66_tree.specs.OneUnit.{list_number}

twice : (x k : ℕ) → (x * 2) * k ≡ 2 * (x * k)
twice x k = omega arith

doubles : (c k : ℕ) → 2 ^ suc c * k ≡ 2 * (2 ^ c * k)
doubles c k = ap (λ (x : ℕ). x * k) (pow-suc 2 c) ∙ twice (2 ^ c) k

pub odd_powers : (c d m n : ℕ) → 2 ^ c * (2 * m + 1) ≡ 2 ^ d * (2 * n + 1) → (c ≡ d) × (m ≡ n)
odd_powers zero zero m n is = (refl, omega arith)
odd_powers zero (suc d) m n is = absurd (omega arith)
odd_powers (suc c) zero m n is = absurd (omega arith)
odd_powers (suc c) (suc d) m n is =
    let halves : 2 ^ c * (2 * m + 1) ≡ 2 ^ d * (2 * n + 1) = omega (arith, doubles c (2 * m + 1), doubles d (2 * n + 1)) in
    let same : (c ≡ d) × (m ≡ n) = odd_powers c d m n halves in
    (ap suc same.0, same.1)

pub positive : (d n : ℕ) → 0 < 2 ^ d * (2 * n + 1)
positive zero n = omega arith
positive (suc d) n = omega (arith, positive d n, doubles d (2 * n + 1))

pub numbers_differ : (xs ys : List ℕ) → list_number xs ≡ list_number ys → xs ≡ ys
numbers_differ [] [] is = refl
numbers_differ [] (d ∷ ds) is = absurd (omega (arith, positive d (list_number ds)))
numbers_differ (c ∷ cs) [] is = absurd (omega (arith, positive c (list_number cs)))
numbers_differ (c ∷ cs) (d ∷ ds) is =
    let same : (c ≡ d) × (list_number cs ≡ list_number ds) = odd_powers c d (list_number cs) (list_number ds) is in
    let tails : cs ≡ ds = numbers_differ cs ds same.1 in
    cc (same.0, tails)
