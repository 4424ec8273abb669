-- One row more moves the end of its class, where it has places.
use Rattle.std.proofs.Common.{◌≡◌, ◌≢◌, ◌<◌, ◌+◌, inl, inr, ℕ, ℤ, List, ◌++◌, length, take, drop, slice_index, slice_index_or, Option, None, Some, refl, sym, subst, ◌∙◌, ◌≤ℤ◌, arith}
use Rattle.std.proofs.lemmas.Bool.{cases_eq, cases_lt}
use Rattle.std.proofs.lemmas.Grind.{common_steps}
use Rattle.std.proofs.lemmas.Int.{ints}
use Rattle.offset_classes.specs.declared.link.Seat.{Seat}
use Rattle.offset_classes.specs.Links.{class_in}
use Rattle.storage_rules.specs.Ends.{IsIn, end_of, IsEnd, AreEnds, IsFurther}

pub whole_written : {X : Type 0} (xs ys : List X) (n : ℕ) → n ≡ length ys → length xs ≡ n → take n (xs ++ drop (length xs) ys) ≡ xs
whole_written xs ys n e f = grind (arith, common_steps)

pub no_ends : (seats : List Seat) (sizes : List ℕ) (ends : List (Option ℤ)) → ((c : ℕ) → slice_index_or ends c None ≡ None) → AreEnds seats sizes 0 ends
no_ends seats sizes ends none c = subst (IsEnd seats sizes 0 c) (sym (none c)) (λ x i. (let lt = i.0 in omega (arith, lt)))

module _ (seats : List Seat) (sizes : List ℕ) (n : ℕ) where
  wider : (c x : ℕ) → IsIn seats sizes n c x → IsIn seats sizes (n + 1) c x
  wider c x i = ((let lt = i.0 in omega (arith, lt)), i.1, i.2)

  -- the row is not of the class, or has no places
  stays : (c : ℕ) (o : Option ℤ) → ((x : ℕ) → IsIn seats sizes (n + 1) c x → IsIn seats sizes n c x) → IsEnd seats sizes n c o → IsEnd seats sizes (n + 1) c o
  stays c None f h = λ x i. h x (f x i)
  stays c (Some e) f h = ((λ x i. h.0 x (f x i)), (h.1.0, wider c h.1.0 h.1.1, h.1.2))

  among : (c x : ℕ) → IsIn seats sizes (n + 1) c x → x ≢ n → IsIn seats sizes n c x
  among c x i ne = ((let lt = i.0 in omega (arith, lt, ne)), i.1, i.2)

  moves : (o new : Option ℤ) → 0 < slice_index sizes n → IsEnd seats sizes n (class_in seats n) o → IsFurther o (end_of seats sizes n) new → IsEnd seats sizes (n + 1) (class_in seats n) new
  moves None new some h e = subst (IsEnd seats sizes (n + 1) (class_in seats n)) (sym e) (
    (λ x i. elim (cases_eq x n) [
      | inl q ↦ subst (λ y. end_of seats sizes y ≤ℤ end_of seats sizes n) (sym q) (omega (arith, ints))
      | inr ne ↦ absurd (h x (among (class_in seats n) x i ne))
    ]),
    (n, (omega arith, refl, some), refl),
  )
  moves (Some f) new some h (inl w) = subst (IsEnd seats sizes (n + 1) (class_in seats n)) (sym w.1) (
    (λ x i. elim (cases_eq x n) [
      | inl q ↦ subst (λ y. end_of seats sizes y ≤ℤ end_of seats sizes n) (sym q) (omega (arith, ints))
      | inr ne ↦ (let a = h.0 x (among (class_in seats n) x i ne) in let b = w.0 in omega (arith, ints, a, b))
    ]),
    (n, (omega arith, refl, some), refl),
  )
  moves (Some f) new some h (inr w) = subst (IsEnd seats sizes (n + 1) (class_in seats n)) (sym w.1) (
    (λ x i. elim (cases_eq x n) [
      | inl q ↦ subst (λ y. end_of seats sizes y ≤ℤ f) (sym q) w.0
      | inr ne ↦ h.0 x (among (class_in seats n) x i ne)
    ]),
    (h.1.0, wider (class_in seats n) h.1.0 h.1.1, h.1.2),
  )

  pub ends_more : (old new : List (Option ℤ)) → AreEnds seats sizes n old → (slice_index sizes n ≡ 0 → new ≡ old) →
      ((c : ℕ) → c ≢ class_in seats n → slice_index_or new c None ≡ slice_index_or old c None) →
      (0 < slice_index sizes n → IsFurther (slice_index_or old (class_in seats n) None) (end_of seats sizes n) (slice_index_or new (class_in seats n) None)) →
      AreEnds seats sizes (n + 1) new
  ends_more old new h none others here c = elim (cases_eq c (class_in seats n)) [
    | inl e ↦ elim (cases_lt 0 (slice_index sizes n)) [
      | inl some ↦ subst (λ k. IsEnd seats sizes (n + 1) k (slice_index_or new k None)) (sym e)
          (moves (slice_index_or old (class_in seats n) None) (slice_index_or new (class_in seats n) None) some (h (class_in seats n)) (here some))
      | inr zero ↦
          let z : slice_index sizes n ≡ 0 = omega (arith, zero) in
          subst (λ es. IsEnd seats sizes (n + 1) c (slice_index_or es c None)) (sym (none z))
          (stays c (slice_index_or old c None) (λ x i. among c x i (λ q. (let some = subst (λ y. 0 < slice_index sizes y) q i.2 in omega (arith, some, z)))) (h c))
    ]
    | inr ne ↦ subst (IsEnd seats sizes (n + 1) c) (sym (others c ne))
        (stays c (slice_index_or old c None) (λ x i. among c x i (λ q. ne (sym i.1 ∙ subst (λ y. class_in seats x ≡ class_in seats y) q refl))) (h c))
  ]
