-- The labels of a unit's blocks: one more with its size, and all of them.
use Rattle.std.proofs.Common.{◌≡◌, ◌≢◌, ◌<◌, ◌+◌, inl, inr, ◌∙◌, ℕ, suc, ℤ, Bool, true, false, List, Option, None, Some, refl, sym, ap, subst, arith}
use Rattle.std.specs.Prelude.{MatchOption, if◌then◌else◌}
use Rattle.std.specs.Option.{option_or}
use Rattle.std.specs.Str.{bytes_eq}
use Rattle.std.proofs.lemmas.Bool.{cases_lt}
use Rattle.std.proofs.lemmas.Slice.Eq.{bytes_eq-Decides}
use Rattle.offset_classes.specs.declared.link.Seat.{Seat}
use Rattle.f66_tree.specs.Syntax.{Text}
use Rattle.storage_assoc.specs.Listings.{name_at}
use Rattle.storage_rules.specs.Reach.{IsReach, AreLabelSizes}

module _ (seats : List Seat) (sizes : List ℕ) (labels : List Text) where
  pub labels_none : (find : Text → Option ℤ) → ((q : Text) → find q ≡ None) → AreLabelSizes seats sizes labels 0 find
  labels_none find none q =
      subst (λ o. MatchOption o ((k : ℕ) → k < 0 → name_at labels k ≢ q) (λ z. (k : ℕ) × (k < 0) × (name_at labels k ≡ q) × IsReach seats sizes (suc k) z)) (sym (none q)) (λ k lt. absurd (omega (arith, lt)))

  module _ (n : ℕ) (z : ℤ) (reach : IsReach seats sizes (suc n) z) where
    abbrev Sized : ℕ → Text → Option ℤ → Type 0
    Sized m q o = MatchOption o ((k : ℕ) → k < m → name_at labels k ≢ q) (λ y. (k : ℕ) × (k < m) × (name_at labels k ≡ q) × IsReach seats sizes (suc k) y)

    sized_more : (q : Text) (o : Option ℤ) → Sized n q o → (b : Bool) → bytes_eq q (name_at labels n) ≡ b → Sized (n + 1) q (option_or o (if b then Some z else None))
    sized_more q (Some y) h b e = (h.0, (let lt = h.1 in omega (arith, lt)), h.2, h.3)
    sized_more q None h true e = (n, omega arith, sym ((bytes_eq-Decides q (name_at labels n)).0 e), reach)
    sized_more q None h false e = λ k lt same. elim (cases_lt k n) [
      | inl l ↦ h k l same
      | inr l ↦
          let at : k ≡ n = omega (arith, lt, l) in
          let t = (bytes_eq-Decides q (name_at labels n)).1 (sym same ∙ ap (name_at labels) at) in
          cc
    ]

    pub labels_more : (old new : Text → Option ℤ) → AreLabelSizes seats sizes labels n old →
        ((q : Text) → new q ≡ option_or (old q) (if bytes_eq q (name_at labels n) then Some z else None)) → AreLabelSizes seats sizes labels (n + 1) new
    labels_more old new h e q = subst (Sized (n + 1) q) (sym (e q)) (sized_more q (old q) (h q) (bytes_eq q (name_at labels n)) refl)
