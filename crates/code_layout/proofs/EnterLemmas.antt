-- Where the code of units stands, by sizes in memory.
use Rattle.std.proofs.Common.{◌≡◌, ◌<◌, ◌+◌, ℕ, nat_eq, List, [], ◌∷◌, length, slice_index_or, cond, inl, inr, refl, sym, ap, ◌∙◌, arith}
use Rattle.std.proofs.lemmas.Bool.{cases_lt, ne_eqb}
use Rattle.std.proofs.lemmas.List.{get_or_past}
use Rattle.code_gen.specs.Behaves.{IsAmong}
use Rattle.code_gen.specs.LayingOut.{before}
use Rattle.code_layout.specs.Order.{others_of}
use Rattle.code_layout.proofs.OrderLemmas.{within}

-- the sizes of those of the list alone count
before_same : (f g : ℕ → ℕ) (us : List ℕ) (u : ℕ) → ((v : ℕ) → IsAmong v us → f v ≡ g v) → before f us u ≡ before g us u
before_same f g [] u h = refl
before_same f g (v ∷ vs) u h =
    ap (λ n. cond (nat_eq u v) 0 (n + before f vs u)) (h v (inl refl)) ∙ ap (λ n. cond (nat_eq u v) 0 (g v + n)) (before_same f g vs u (λ w m. h w (inr m)))

-- before what is not in the list stands the whole list
before_past : (f : ℕ → ℕ) (us : List ℕ) (u w : ℕ) → ((v : ℕ) → IsAmong v us → (u ≡ v → ⊥) × (w ≡ v → ⊥)) → before f us u ≡ before f us w
before_past f [] u w h = refl
before_past f (v ∷ vs) u w h =
    ap (λ b. cond b 0 (f v + before f vs u)) (ne_eqb u v (h v (inl refl)).0)
    ∙ ap (λ n. f v + n) (before_past f vs u w (λ x m. h x (inr m)))
    ∙ sym (ap (λ b. cond b 0 (f v + before f vs w)) (ne_eqb w v (h v (inl refl)).1))

module _ (main n : ℕ) (main_in : main < n) where
  abbrev order : List ℕ
  order = main ∷ others_of main n

  pub inside : (v : ℕ) → IsAmong v order → v < n
  inside v (inl e) = omega (arith, main_in, e)
  inside v (inr m) = (let w = (within main 0 n v m).1 in omega (arith, w))

  pub starts_entered : (f g : ℕ → ℕ) (starts : List ℕ) (end : ℕ) → ((u : ℕ) → u < n → f u ≡ g u) → length starts ≡ n → ((u d : ℕ) → u < n → slice_index_or starts u d ≡ before f order u) → end ≡ before f order n →
      (u : ℕ) → slice_index_or starts u end ≡ before g order u
  starts_entered f g starts end same long each last u = elim (cases_lt u n) [
    | inl lt ↦ each u end lt ∙ before_same f g order u (λ v m. same v (inside v m))
    | inr ge ↦
        get_or_past starts u end (omega (arith, long, ge)) ∙ last
        ∙ before_past f order n u (λ v m. (λ e. (let lt = inside v m in omega (arith, lt, e)), λ e. (let lt = inside v m in omega (arith, lt, e, ge))))
        ∙ before_same f g order u (λ v m. same v (inside v m))
  ]
